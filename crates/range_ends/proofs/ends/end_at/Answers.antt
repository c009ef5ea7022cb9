use Rattle.std.proofs.Common.{ℕ, ◌↔◌, Some, None, ◌≡◌, sym, subst, ◌∙◌, rules}
use Rattle.trees.specs.Names.{reference_module, reference_name}
use Rattle.type_table.specs.Seen.{kind_of}
use Rattle.std.specs.Prelude.{MatchResult}
use Rattle.trees.specs.Values.{reference}
use Rattle.range_ends.specs.Cores.{HasKind}
use Rattle.range_ends.specs.Ends.{HasNoNumber}
use Rattle.range_ends.specs.proving.Noted.{AreRight}
use Rattle.range_ends.specs.proving.Steps.{MeansValue, AreReferred}
use Rattle.range_ends.specs.Answers.{DenotesOnly, IsEndFault}
use Rattle.range_ends.proofs.Following.{number_only, named_only, lost_here, end_answers}
use Rattle.resolve.specs.Program.{WrittenProgram}
use Rattle.range_ends.proofs.ends.end_at.Goals as goal

pub returns-in-Number : goal.returns-in-Number
returns-in-Number c =
    let e = number_only c.args.scope.now.program (kind_of c.args.shape.now) c.args.within.now c.in-Number.number.it in
    search rules

pub returns-in-Some : goal.returns-in-Some
returns-in-Some c =
    let e = named_only c.args.scope.now.program (kind_of c.args.shape.now) c.args.within.now
    (reference_module c.in-Reference.reference) (reference_name c.in-Reference.reference)
    c.in-Some.number (sym c.named.ensures ∙ c.in-Some.is) in
    search rules

pub returns-in-None-named_value : goal.returns-in-None-named_value
returns-in-None-named_value c =
    let q = reference_module c.in-Reference.reference in
    let x = reference_name c.in-Reference.reference in
    let none = λ (j : ℕ) (m : MeansValue c.linked-linked.result.now.program c.args.within.now (reference q x) j). (
    let f : None ≡ Some j = sym c.in-None-named_value.is ∙ (c.named_value.ensures.means j).1 m in
    absurd cc) in
    let e = lost_here c.linked-linked.result.now.program (kind_of c.args.shape.now) c.args.within.now q x
    (sym c.named.ensures ∙ c.in-None.is) none in
    let f = subst (λ (p : WrittenProgram). HasNoNumber p.program (kind_of c.args.shape.now) c.args.within.now (reference q x)) c.linked-linked.ensures e in
    search rules

pub returns-in-Some-named_value : goal.returns-in-Some-named_value
returns-in-Some-named_value c =
    let q = reference_module c.in-Reference.reference in
    let x = reference_name c.in-Reference.reference in
    let k = kind_of c.args.shape.now in
    let M = c.args.within.now in
    let refers = subst (λ o. (j : ℕ) → (o ≡ Some j ↔ MeansValue c.linked-linked.result.now.program M (reference q x) j))
    c.in-Some-named_value.is c.named_value.ensures.means in
    let a = subst (λ (p : WrittenProgram). AreReferred p.program c.ways-ways.result.target.now) (sym c.linked-linked.ensures) c.ways-ways.ensures.referred in
    let e = end_answers c.linked-linked.result.now.program k c.ways-ways.result.target.now M q x c.in-Some-named_value.start a c.lemma_whole.ensures
    (sym c.named.ensures ∙ c.in-None.is) (search rules) refers c.followed.result c.followed.ensures in
    let f = subst (λ (p : WrittenProgram). MatchResult c.followed.result (DenotesOnly p.program k M (reference q x)) (IsEndFault p.program k M (reference q x)))
    c.linked-linked.ensures e in
    search rules

pub followed-requires : goal.followed-requires
followed-requires c =
    let k = kind_of c.args.shape.now in
    let os = c.ways-ways.result.target.now in
    record {
      inside = search rules;
      kind = subst (λ (p : WrittenProgram). HasKind p.program.types c.args.core k) (sym c.linked-linked.ensures) c.requires;
      referred = subst (λ (p : WrittenProgram). AreReferred p.program os) (sym c.linked-linked.ensures) c.ways-ways.ensures.referred;
      far = c.ways-ways.ensures.far;
      notes = subst (λ (p : WrittenProgram). AreRight p.program os c.ways-ways.result.notes.now) (sym c.linked-linked.ensures)
          c.ways-ways.ensures.notes;
    }
