use mir.Syntax.{w128}
use Rattle.std.proofs.Common.{◌≡◌, true, false, subst, sym}
use Rattle.std.proofs.lemmas.Int.{to_z-of_z}
use Rattle.asn_base.specs.Seen.{bounds_of}
use Rattle.packed_counts.specs.Counts.{Adds}
use Rattle.packed_encodings.specs.Lengths.{IsInRootBounds}
use Rattle.packed_encodings.specs.Numbers.{IntegerInRoot}
use Rattle.packed_leaves.specs.proving.Contents.{AddsNumber}
use Rattle.packed_leaves.proofs.Numbers.{plain, inside, outside}
use Rattle.packed_leaves.proofs.number.push_bounded.Goals as goal

pub returns-then-not-bounds : goal.returns-then-not-bounds
returns-then-not-bounds c =
    plain (bounds_of c.args.bounds.now) c.args.number c.args.out.now c.push_in_root.new.out c.if-not-bounds.true
    (subst (λ q. Adds (IntegerInRoot (bounds_of c.args.bounds.now) q) c.args.out.now c.push_in_root.new.out) (to_z-of_z w128 c.args.number c.ranges.number) c.in_ok-push_in_root.ensures)

pub returns-in_ok-push_in_root-2 : goal.returns-in_ok-push_in_root-2
returns-in_ok-push_in_root-2 c =
    inside (bounds_of c.args.bounds.now) c.args.number c.args.out.now c.push.new.self c.push_in_root-then-is_in_root.new.out c.if-not-bounds.false c.in_ok-push.ensures.ok
    (subst (λ q. Adds (IntegerInRoot (bounds_of c.args.bounds.now) q) c.push.new.self c.push_in_root-then-is_in_root.new.out) (to_z-of_z w128 c.args.number c.ranges.number) c.in_ok-push_in_root-2.ensures)

pub returns-in_ok-push_signed : goal.returns-in_ok-push_signed
returns-in_ok-push_signed c =
    outside (bounds_of c.args.bounds.now) c.args.number c.args.out.now c.push-else-is_in_root.new.self c.push_signed.new.out c.if-not-bounds.false
    (λ h. (let e : false ≡ true = c.if-is_in_root.ensures.1 (subst (IsInRootBounds (bounds_of c.args.bounds.now)) (sym (to_z-of_z w128 c.args.number c.ranges.number)) h) in cc))
    c.in_ok-push-2.ensures.ok
    (subst (λ q. AddsNumber q c.push-else-is_in_root.new.self c.push_signed.new.out) (to_z-of_z w128 c.args.number c.ranges.number) c.in_ok-push_signed.ensures)
