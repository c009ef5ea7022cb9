use mir.Syntax.{w128}
use mir.Val.{to_z, of_z, SFits}
use Rattle.std.proofs.Common.{◌≡◌, rules, subst, ◌-ℤ◌, nat_abs}
use Rattle.std.proofs.lemmas.Int.{to_z-of_z}
use Rattle.asn_base.specs.Seen.{bounds_of}
use Rattle.packed_leaves.specs.proving.Contents.{AddsNumber}
use Rattle.packed_leaves.proofs.Numbers.{in_both, in_from, in_any}
use Rattle.packed_leaves.proofs.number.push_in_root.Goals as goal

pub returns-in_default : goal.returns-in_default
returns-in_default c =
    in_any (bounds_of c.args.bounds.now) c.args.number c.args.out.now c.push_signed.new.out c.requires.inside c.in_default.is
    (subst (λ q. AddsNumber q c.args.out.now c.push_signed.new.out) (to_z-of_z w128 c.args.number c.ranges.number) c.in_ok-push_signed.ensures)

pub returns-in_ok-push_number-in-Some-greatest : goal.returns-in_ok-push_number-in-Some-greatest
returns-in_ok-push_number-in-Some-greatest c =
    let n = c.args.number in
    let g = c.in-Some-greatest.greatest in
    let l = c.in-Some.least in
    let fg : SFits w128 c.in-Some-greatest.greatest = search rules in
    let fl : SFits w128 c.in-Some.least = search rules in
    let far = subst (λ v. c.span.result ≡ nat_abs (v -ℤ l)) (to_z-of_z w128 g fg) (subst (λ v. c.span.result ≡ nat_abs (to_z w128 (of_z w128 g) -ℤ v)) (to_z-of_z w128 l fl) c.span.ensures) in
    let over = subst (λ v. c.span-over.result ≡ nat_abs (v -ℤ l)) (to_z-of_z w128 n c.ranges.number) (subst (λ v. c.span-over.result ≡ nat_abs (to_z w128 (of_z w128 n) -ℤ v)) (to_z-of_z w128 l fl) c.span-over.ensures) in
    in_both (bounds_of c.args.bounds.now) n l g c.span.result c.fewest.result c.span-over.result c.args.out.now c.push_number.new.out c.requires.inside c.in-Some.is c.in-Some-greatest.is far c.fewest.ensures.is over
    c.in_ok-push_number-in-Some-greatest.ensures

pub returns-in_ok-push_unsigned-in-None : goal.returns-in_ok-push_unsigned-in-None
returns-in_ok-push_unsigned-in-None c =
    let n = c.args.number in
    let l = c.in-Some.least in
    let fl : SFits w128 c.in-Some.least = search rules in
    let over = subst (λ v. c.span-over.result ≡ nat_abs (v -ℤ l)) (to_z-of_z w128 n c.ranges.number) (subst (λ v. c.span-over.result ≡ nat_abs (to_z w128 (of_z w128 n) -ℤ v)) (to_z-of_z w128 l fl) c.span-over.ensures) in
    in_from (bounds_of c.args.bounds.now) n l c.span-over.result c.args.out.now c.push_unsigned.new.out c.requires.inside c.in-Some.is c.in-None.is over c.in_ok-push_unsigned-in-None.ensures
