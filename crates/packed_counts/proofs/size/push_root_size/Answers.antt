use mir.Syntax.{w128}
use mir.Val.{to_z, of_z, SFits}
use Rattle.std.proofs.Common.{◌≡◌, rules, refl, subst, pos, ◌<ℤ◌, ◌-ℤ◌, nat_abs}
use Rattle.std.proofs.lemmas.Int.{to_z-of_z}
use Rattle.asn_base.specs.Seen.{bounds_of}
use Rattle.packed_counts.proofs.Sizes.{narrow_head}
use Rattle.packed_counts.proofs.size.push_root_size.Goals as goal

pub returns-then-is_small : goal.returns-then-is_small
returns-then-is_small c =
    let g = c.in-Some.greatest in
    let l = c.in-Some-least.least in
    let fg : SFits w128 c.in-Some.greatest = search rules in
    let fl : SFits w128 c.in-Some-least.least = search rules in
    let lt = subst (λ v. v <ℤ pos 65536) (to_z-of_z w128 g fg) (c.if-is_small.ensures.0 refl) in
    let far = subst (λ v. c.span.result ≡ nat_abs (v -ℤ l)) (to_z-of_z w128 g fg) (subst (λ v. c.span.result ≡ nat_abs (to_z w128 (of_z w128 g) -ℤ v)) (to_z-of_z w128 l fl) c.span.ensures) in
    let over = subst (λ v. c.above-over.result ≡ nat_abs (pos c.args.count -ℤ v)) (to_z-of_z w128 l fl) c.above-over.ensures in
    narrow_head (bounds_of c.args.bounds.now) c.args.count c.fewest-width.result c.above-over.result c.span.result l g c.args.out.now
    c.push_number.new.out c.requires.least c.requires.inside c.in-Some-least.is c.in-Some.is lt far c.fewest-width.ensures.is over
    c.in_ok-push_number.ensures
