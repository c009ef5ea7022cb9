use Rattle.std.proofs.Common.{inl}
use Rattle.asn_base.specs.Seen.{range_of}
use Rattle.later_versions.specs.proving.Edges.{HasNoBeginning}
use Rattle.later_versions.proofs.Fronts.{yes, drop_at, left_at, not_here}
use Rattle.later_versions.proofs.sets.reach_down.Goals as goal

pub returns-then-is_none : goal.returns-then-is_none
returns-then-is_none c =
    yes ((left_at HasNoBeginning _ _ c.loop-i.i (drop_at range_of c.args.ranges.now c.loop-i.i _ c.loop-i-test.true) c.loop-i.invariant).1 (inl (c.is_none.ensures.0 c.if-is_none.true)))

pub loop-i-preserved : goal.loop-i-preserved
loop-i-preserved c =
    not_here (left_at HasNoBeginning _ _ c.loop-i.i (drop_at range_of c.args.ranges.now c.loop-i.i _ c.loop-i-test.true) c.loop-i.invariant)
    (λ h. let e = c.is_none.ensures.1 h in cc)
