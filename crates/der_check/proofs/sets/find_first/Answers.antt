use Rattle.std.proofs.Common.{arith}
use Rattle.std.proofs.lemmas.Bool.Decides.{nat_tests}
use Rattle.der_check.proofs.Orders.{shorter, front_there}
use Rattle.der_check.proofs.Climbing.{comes_begin, comes_first, comes_later, comes_nowhere}
use Rattle.der_check.proofs.sets.find_first.Goals as goal

pub loop-rest-init : goal.loop-rest-init
loop-rest-init c = λ ys x u i. comes_begin u i

pub returns-in_default : goal.returns-in_default
returns-in_default c = λ ys x u i. absurd (front_there (c.loop-rest.invariant ys x u i).units (λ z. let e = c.loop-rest-test.ensures in grind (arith, nat_tests)) c.in_default.ensures.none)

pub returns-then-can_begin : goal.returns-then-can_begin
returns-then-can_begin c = λ ys x u i. comes_first c.header_laws.ensures.none_begins_another c.in-Some.next.rest.now c.distance.result (c.loop-rest.invariant ys x u i) c.in-Some.ensures.unit c.in-Some.ensures.whole (c.can_begin.ensures.0 c.if-can_begin.true) c.distance.ensures

pub loop-rest-smaller : goal.loop-rest-smaller
loop-rest-smaller c = shorter c.in-Some.next.rest.now c.in-Some.ensures.unit c.in-Some.ensures.whole

pub loop-rest-preserved : goal.loop-rest-preserved
loop-rest-preserved c = λ ys x u i. comes_later c.header_laws.ensures.none_begins_another (c.loop-rest.invariant ys x u i) c.in-Some.ensures.unit c.in-Some.ensures.whole (λ f. let h = c.can_begin.ensures.1 f in let g = c.if-can_begin.false in cc)

pub returns : goal.returns
returns c = λ ys x u i. comes_nowhere (c.loop-rest.invariant ys x u i) (let e = c.loop-rest-test.ensures in grind (arith, nat_tests))
