use Rattle.std.proofs.Common.{arith, [], sym, subst}
use Rattle.std.proofs.lemmas.List.{append-nil}
use Rattle.encodings.specs.Encoding.{EncodesTo}
use Rattle.encodings.specs.Rules.{Distinguished}
use Rattle.views.specs.Tree.{value_of}
use Rattle.der_check.proofs.Deciding.{says_count}
use Rattle.der_check.proofs.value.is_quickly_strict.Goals as goal

pub returns-in-Some : goal.returns-in-Some
returns-in-Some c = λ k e l y.
    let s = c.args.judge.code.now in
    let v = value_of c.args.part.now in
    let o = c.args.octets.now in
    let d = (c.in-Some.ensures o [] (record { few = (omega arith); value = e.value; count = k; says_it = e.says_it; short = l }) (sym (append-nil o)) l).1 in
    let n = says_count c.der_laws.ensures.ber c.schema_laws.ensures.says_one c.lemma_invariant.ensures (c.lemma_sameness.ensures.itself s c.args.id.index v e.value) d.1 e.says_it in
    subst (λ q. EncodesTo s Distinguished c.args.id.index v q o) n d.1
