use mir.Syntax.{w128}
use mir.Val.{to_z, of_z}
use Rattle.std.proofs.Common.{inl, inr, map, subst}
use Rattle.std.proofs.lemmas.Int.{to_z-of_z}
use Rattle.asn_base.specs.Seen.{item_of}
use Rattle.asn_base.specs.Typed.{HasNumber}
use Rattle.asn_base.proofs.Leaves.{numbers_append}
use Rattle.asn_base.proofs.leaf.finds_number.Goals as goal

pub returns-then-finds_item : goal.returns-then-finds_item
returns-then-finds_item c = λ t.
    let same = to_z-of_z w128 c.args.number c.ranges.number in
    let there = subst (λ z. HasNumber (map item_of c.args.items.now.root.items) z) same
    (subst (λ q. HasNumber (map item_of q) (to_z w128 (of_z w128 c.args.number))) c.as_slice.ensures.value (c.finds_item.ensures c.if-finds_item.true)) in
    (numbers_append _ _ _).1 (inl there)

pub returns-else-finds_item : goal.returns-else-finds_item
returns-else-finds_item c = λ t.
    let same = to_z-of_z w128 c.args.number c.ranges.number in
    let there = subst (λ z. HasNumber (map item_of c.args.items.now.additions.items) z) same
    (subst (λ q. HasNumber (map item_of q) (to_z w128 (of_z w128 c.args.number))) c.as_slice-else-finds_item.ensures.value (c.finds_item-else-finds_item.ensures t)) in
    (numbers_append _ _ _).1 (inr there)
