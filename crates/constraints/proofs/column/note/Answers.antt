use Rattle.std.proofs.Common.{◌≡◌, Some, None, length, sym, ap, subst, ◌∙◌, arith, rules}
use Rattle.std.specs.Prelude.{slice_set}
use Rattle.resolve.specs.Program.{WrittenProgram}
use Rattle.constraints.specs.proving.Columns.{AreNoted, IsShared}
use Rattle.constraints.proofs.Leaving.{shared_limit}
use Rattle.constraints.proofs.Noting.{some_same, number_is, kept_set, noted_set, are_set, are_pushed}
use Rattle.constraints.proofs.column.note.Goals as goal

pub returns-in-None-number-clause-it : goal.returns-in-None-number-clause-it
returns-in-None-number-clause-it c =
    let s = subst (λ (p : WrittenProgram). IsShared p.program.types c.args.ty c.in-Some.next) c.linked.ensures (c.shared.ensures c.in-Some.next c.in-Some.is) in
    let n = c.requires.target c.in-Some.next s.chain in
    let q : None ≡ Some n.0 = sym c.in-None-number.is ∙ c.number.ensures ∙ number_is c.args.column.now.at.items c.in-Some.next n in
    absurd cc

pub returns-in-Some-number-clause-noted : goal.returns-in-Some-number-clause-noted
returns-in-Some-number-clause-noted c =
    let s = subst (λ (p : WrittenProgram). IsShared p.program.types c.args.ty c.in-Some.next) c.linked.ensures (c.shared.ensures c.in-Some.next c.in-Some.is) in
    let n = c.requires.target c.in-Some.next s.chain in
    let q = some_same c.in-Some-number.number n.0
    (sym c.in-Some-number.is ∙ c.number.ensures ∙ number_is c.args.column.now.at.items c.in-Some.next n) in
    let m = c.requires.noted.each c.in-Some.next c.in-Some-number.number (n.1 ∙ ap (λ a. Some (Some a)) (sym q)) in
    are_set c.args.scope.now.program c.args.column.now.at.items c.args.column.now.limits.items c.args.column.now.limits.items c.args.ty
    c.in-Some-number.number m.0 c.requires.noted (λ a x e. e) m.1 (shared_limit c.args.scope.now.program c.args.ty c.in-Some.next m.0 s m.2)

pub returns-in-Some-number-clause-it : goal.returns-in-Some-number-clause-it
returns-in-Some-number-clause-it c =
    let t = c.requires.there in
    let l = c.requires.noted.long in
    noted_set c.args.column.now.at.items c.args.ty c.in-Some-number.number (omega (arith, t, l))

pub returns-in-Some-number-clause-kept : goal.returns-in-Some-number-clause-kept
returns-in-Some-number-clause-kept c = λ i n. kept_set c.args.column.now.at.items c.args.ty c.in-Some-number.number i n

pub returns-in-Ok-push-clause-noted : goal.returns-in-Ok-push-clause-noted
returns-in-Ok-push-clause-noted c =
    let n : c.len-number.result ≡ length c.args.column.now.limits.items = search rules in
    subst (λ a. AreNoted c.args.scope.now.program (slice_set c.args.column.now.at.items c.args.ty (Some a)) c.push.new.self.items) (sym n)
    (are_pushed c.args.scope.now.program c.args.column.now.at.items c.args.column.now.limits.items c.push.new.self.items c.args.ty
    c.in-Ok.limit c.requires.noted c.in-Ok-push.ensures.items c.in-Ok.ensures.found)

pub returns-in-Ok-push-clause-it : goal.returns-in-Ok-push-clause-it
returns-in-Ok-push-clause-it c =
    let t = c.requires.there in
    let l = c.requires.noted.long in
    noted_set c.args.column.now.at.items c.args.ty c.len-number.result (omega (arith, t, l))

pub returns-in-Ok-push-clause-kept : goal.returns-in-Ok-push-clause-kept
returns-in-Ok-push-clause-kept c = λ i n. kept_set c.args.column.now.at.items c.args.ty c.len-number.result i n
