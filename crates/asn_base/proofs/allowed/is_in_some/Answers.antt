use mir.Syntax.{w128}
use Rattle.std.proofs.Common.{inl, map, subst}
use Rattle.std.proofs.lemmas.Int.{to_z-of_z}
use Rattle.asn_base.specs.Seen.{range_of}
use Rattle.asn_base.specs.Typed.{IsInSome}
use Rattle.asn_base.proofs.Leaves.{yes, not_here}
use Rattle.asn_base.proofs.allowed.is_in_some.Goals as goal
use Rattle.asn_base.specs.proving.Lists.{drop_at, left_at}

pub returns-then-is_in_range : goal.returns-then-is_in_range
returns-then-is_in_range c =
    yes (subst (λ z. IsInSome z (map range_of c.args.ranges.now)) (to_z-of_z w128 c.args.number c.ranges.number)
    ((left_at (IsInSome _) _ _ c.loop-i.i (drop_at range_of c.args.ranges.now c.loop-i.i _ c.loop-i-test.true) c.loop-i.invariant).1 (inl (c.is_in_range.ensures.0 c.if-is_in_range.true))))

pub loop-i-preserved : goal.loop-i-preserved
loop-i-preserved c =
    not_here (left_at (IsInSome _) _ _ c.loop-i.i (drop_at range_of c.args.ranges.now c.loop-i.i _ c.loop-i-test.true) c.loop-i.invariant)
    (λ h. let e = c.is_in_range.ensures.1 h in cc)
