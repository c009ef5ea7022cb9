use Rattle.std.proofs.Common.{arith}
use Rattle.std.proofs.lemmas.Bool.Decides.{nat_tests}
use Rattle.der_check.proofs.Orders.{shorter, front_there}
use Rattle.der_check.proofs.Climbing.{climbs_begin, climbs_refused, climbs_next, climbs_end}
use Rattle.der_check.proofs.sets.do_climb.Goals as goal

pub loop-rest-init : goal.loop-rest-init
loop-rest-init c = λ cs ys zs us r u p. climbs_begin c.header_laws.ensures.none_begins_another c.args.code.now cs ys zs us c.args.contents.now u p

pub returns-in_default : goal.returns-in_default
returns-in_default c = λ cs ys zs us r u p. absurd (front_there (c.loop-rest.invariant cs ys zs us r u p).units (λ z. let e = c.loop-rest-test.ensures in grind (arith, nat_tests)) c.in_default.ensures.none)

pub returns-in-None : goal.returns-in-None
returns-in-None c = λ cs ys zs us r u p.
    let k = c.in-None.ensures.none cs r in
    climbs_refused c.header_laws.ensures.none_begins_another c.in-Some.next.rest.now c.args.contents.now c.distance.result (c.loop-rest.invariant cs ys zs us r u p) c.in-Some.ensures.unit c.in-Some.ensures.whole k.0 k.1 c.distance.ensures

pub returns : goal.returns
returns c = λ cs ys zs us r u p. climbs_end (c.loop-rest.invariant cs ys zs us r u p) (let e = c.loop-rest-test.ensures in grind (arith, nat_tests))

pub loop-rest-preserved : goal.loop-rest-preserved
loop-rest-preserved c = λ cs ys zs us r u p.
    climbs_next c.header_laws.ensures.none_begins_another c.in-Some-next_last.found.1 (c.loop-rest.invariant cs ys zs us r u p) c.in-Some.ensures.unit c.in-Some.ensures.whole (c.in-Some-next_last.ensures.some cs r) c.both-whole.ensures

pub loop-rest-smaller : goal.loop-rest-smaller
loop-rest-smaller c = shorter c.in-Some.next.rest.now c.in-Some.ensures.unit c.in-Some.ensures.whole
