use mir.Syntax.{w128}
use Rattle.std.proofs.Common.{map, subst, to_z, of_z}
use Rattle.std.proofs.lemmas.Int.{to_z-of_z}
use Rattle.std.specs.Prelude.{◌≤ℤ◌, ◌↔◌, IsTrue}
use Rattle.asn_base.specs.Seen.{range_of}
use Rattle.asn_base.specs.proving.Bounding.{AreAllUpTo}
use Rattle.asn_base.proofs.Leaves.{yes, no}
use Rattle.asn_base.proofs.Bounding.{all_in, all_in_none}
use Rattle.asn_base.proofs.bounds.are_up_to.Goals as goal
use Rattle.asn_base.specs.proving.Lists.{drop_at, drop_end, left_at, onward}

pub returns-then-not-is_range_up_to : goal.returns-then-not-is_range_up_to
returns-then-not-is_range_up_to c =
    let m = to_z w128 (of_z w128 c.args.greatest) in
    let a = left_at (λ q. AreAllUpTo c.args.floor q m) _ _ c.loop-i.i (drop_at range_of c.args.ranges.now c.loop-i.i _ c.loop-i-test.true) c.loop-i.invariant in
    subst (λ q. IsTrue _ ↔ AreAllUpTo c.args.floor (map range_of c.args.ranges.now) q) (to_z-of_z w128 c.args.greatest c.ranges.greatest)
    (no (λ f. let t = c.is_range_up_to.ensures.1 (λ z h. ((all_in c.args.floor (λ z. z ≤ℤ m) _ _).0 (a.0 f)).0 z ((c.clipped.ensures z).0 h)) in let n = c.if-not-is_range_up_to.true in cc))

pub loop-i-preserved : goal.loop-i-preserved
loop-i-preserved c =
    let m = to_z w128 (of_z w128 c.args.greatest) in
    let a = left_at (λ q. AreAllUpTo c.args.floor q m) _ _ c.loop-i.i (drop_at range_of c.args.ranges.now c.loop-i.i _ c.loop-i-test.true) c.loop-i.invariant in
    onward a (λ f. ((all_in c.args.floor (λ z. z ≤ℤ m) _ _).0 f).1) (λ f. (all_in c.args.floor (λ z. z ≤ℤ m) _ _).1 (λ z h. c.is_range_up_to.ensures.0 c.if-not-is_range_up_to.false z ((c.clipped.ensures z).1 h), f))

pub returns : goal.returns
returns c =
    let m = to_z w128 (of_z w128 c.args.greatest) in
    let a = left_at (λ q. AreAllUpTo c.args.floor q m) _ _ c.loop-i.i (drop_end range_of c.args.ranges.now c.loop-i.i c.loop-i-test.false) c.loop-i.invariant in
    subst (λ q. IsTrue _ ↔ AreAllUpTo c.args.floor (map range_of c.args.ranges.now) q) (to_z-of_z w128 c.args.greatest c.ranges.greatest)
    (yes (a.1 (all_in_none c.args.floor (λ z. z ≤ℤ m))))
