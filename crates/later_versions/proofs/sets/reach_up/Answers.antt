use Rattle.std.proofs.Common.{inl, ◌^◌}
use Rattle.std.specs.Prelude.{pos}
use Rattle.asn_base.specs.Seen.{range_of}
use Rattle.asn_base.specs.Typed.{IsInSome}
use Rattle.later_versions.proofs.Fronts.{yes, drop_at, left_at, not_here}
use Rattle.later_versions.proofs.sets.reach_up.Goals as goal

pub returns-then-goes_up : goal.returns-then-goes_up
returns-then-goes_up c =
    yes ((left_at (IsInSome (pos (2 ^ 127))) _ _ c.loop-i.i (drop_at range_of c.args.ranges.now c.loop-i.i _ c.loop-i-test.true) c.loop-i.invariant).1 (inl (c.goes_up.ensures.0 c.if-goes_up.true)))

pub loop-i-preserved : goal.loop-i-preserved
loop-i-preserved c =
    not_here (left_at (IsInSome (pos (2 ^ 127))) _ _ c.loop-i.i (drop_at range_of c.args.ranges.now c.loop-i.i _ c.loop-i-test.true) c.loop-i.invariant)
    (λ h. let e = c.goes_up.ensures.1 h in cc)
