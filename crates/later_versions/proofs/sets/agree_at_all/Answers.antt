use Rattle.asn_base.specs.Seen.{range_of}
use Rattle.later_versions.proofs.Agree.{agree_here, agree_not}
use Rattle.later_versions.proofs.Fronts.{no, drop_at}
use Rattle.later_versions.proofs.sets.agree_at_all.Goals as goal

pub returns-then-not-agree_at_edges : goal.returns-then-not-agree_at_edges
returns-then-not-agree_at_edges c =
    no (agree_not c.args.one.now c.args.other.now _ _ _ (drop_at range_of c.args.ranges.now c.loop-i.i _ c.loop-i-test.true)
    (λ h. let e = c.agree_at_edges.ensures.1 h in cc) c.loop-i.invariant)

pub loop-i-preserved : goal.loop-i-preserved
loop-i-preserved c =
    agree_here c.args.one.now c.args.other.now _ _ _ (drop_at range_of c.args.ranges.now c.loop-i.i _ c.loop-i-test.true)
    (c.agree_at_edges.ensures.0 c.if-not-agree_at_edges.false) c.loop-i.invariant
