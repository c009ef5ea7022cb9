use mir.Syntax.{w128}
use mir.Val.{SFits, to_z, of_z}
use Rattle.std.proofs.Common.{rules, ◌≡◌, inl, map, sym, subst, ap, ◌∙◌}
use Rattle.std.proofs.lemmas.Int.{to_z-of_z}
use Rattle.asn_base.specs.Seen.{item_of}
use Rattle.asn_base.specs.Typed.{HasNumber}
use Rattle.asn_base.proofs.Leaves.{yes, not_here}
use Rattle.asn_base.proofs.leaf.has_item.Goals as goal
use Rattle.asn_base.specs.proving.Lists.{drop_at, left_at}

pub returns-then-items-i : goal.returns-then-items-i
returns-then-items-i c =
    let f : SFits w128 c.index-items-i.result.number = search rules in
    let same = to_z-of_z w128 c.args.number c.ranges.number in
    let is : c.index-items-i.result.number ≡ to_z w128 (of_z w128 c.args.number) =
    sym (to_z-of_z w128 c.index-items-i.result.number f) ∙ ap (λ x. to_z w128 (of_z w128 x.number)) c.index-items-i.is ∙ ap (to_z w128) c.if-items-i.true in
    yes (subst (λ z. HasNumber (map item_of c.args.items.now) z) same
    ((left_at (λ q. HasNumber q (to_z w128 (of_z w128 c.args.number))) _ _ c.loop-i.i (drop_at item_of c.args.items.now c.loop-i.i c.index-items-i.result c.loop-i-test.true) c.loop-i.invariant).1 (inl (ap (λ x. x.number) (sym c.index-items-i.is) ∙ is))))

pub loop-i-preserved : goal.loop-i-preserved
loop-i-preserved c =
    not_here (left_at (λ q. HasNumber q (to_z w128 (of_z w128 c.args.number))) _ _ c.loop-i.i (drop_at item_of c.args.items.now c.loop-i.i c.index-items-i.result c.loop-i-test.true) c.loop-i.invariant)
    (λ h. c.if-items-i.false (ap (of_z w128) (h ∙ to_z-of_z w128 c.args.number c.ranges.number)))
