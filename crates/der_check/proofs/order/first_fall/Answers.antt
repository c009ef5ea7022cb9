use Rattle.std.proofs.Common.{arith, refl}
use Rattle.std.proofs.lemmas.Bool.Decides.{nat_tests}
use Rattle.der_check.proofs.Orders.{shorter, front_of, front_there, ascends_begin, ascends_refused, ascends_next, ascends_end}
use Rattle.der_check.proofs.order.first_fall.Goals as goal

pub loop-rest-init : goal.loop-rest-init
loop-rest-init c = λ ys u. ascends_begin ys c.args.contents.now u

pub returns-in_default : goal.returns-in_default
returns-in_default c = λ ys u. absurd (front_there (c.loop-rest.invariant ys u).units (λ z. let e = c.loop-rest-test.ensures in grind (arith, nat_tests)) c.in_default.ensures.none)

pub returns-then-not-is_at_most : goal.returns-then-not-is_at_most
returns-then-not-is_at_most c = λ ys u.
    let a = c.loop-rest.invariant ys u in
    let f = front_of c.header_laws.ensures.none_begins_another a.todo a.units c.in-Some.ensures.unit c.in-Some.ensures.whole in
    ascends_refused c.distance.result c.args.contents.now a f c.in-Some.ensures.unit c.in-Some.ensures.whole (λ m. let h = c.is_at_most.ensures.1 m in let g = c.if-not-is_at_most.true in cc) refl c.distance.ensures

pub loop-rest-smaller : goal.loop-rest-smaller
loop-rest-smaller c = shorter c.in-Some.next.rest.now c.in-Some.ensures.unit c.in-Some.ensures.whole

pub loop-rest-preserved : goal.loop-rest-preserved
loop-rest-preserved c = λ ys u. ascends_next c.header_laws.ensures.none_begins_another (c.loop-rest.invariant ys u) c.in-Some.ensures.unit c.in-Some.ensures.whole (c.is_at_most.ensures.0 c.if-not-is_at_most.false)

pub returns : goal.returns
returns c = λ ys u. ascends_end (c.loop-rest.invariant ys u) (let e = c.loop-rest-test.ensures in grind (arith, nat_tests))
