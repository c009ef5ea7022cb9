use mir.Syntax.{w128}
use mir.Val.{to_z, of_z}
use Rattle.std.proofs.Common.{map, subst, sym, ◌↔◌}
use Rattle.std.specs.Prelude.{IsTrue}
use Rattle.std.proofs.lemmas.Int.{to_z-of_z}
use Rattle.asn_base.specs.Seen.{item_of}
use Rattle.asn_base.specs.Typed.{HasNumber}
use Rattle.asn_base.proofs.Leaves.{numbers_append, or_first, or_second}
use Rattle.asn_base.proofs.leaf.has_number.Goals as goal

pub returns-then-has_item : goal.returns-then-has_item
returns-then-has_item c =
    let same = to_z-of_z w128 c.args.number c.ranges.number in
    or_first (numbers_append _ _ _) c.if-has_item.true
    (subst (λ z. IsTrue c.has_item.result ↔ HasNumber (map item_of c.args.items.now.root.items) z) same
    (subst (λ q. IsTrue c.has_item.result ↔ HasNumber (map item_of q) (to_z w128 (of_z w128 c.args.number))) c.as_slice.ensures.value c.has_item.ensures))

pub returns-else-has_item : goal.returns-else-has_item
returns-else-has_item c =
    let same = to_z-of_z w128 c.args.number c.ranges.number in
    or_second (numbers_append _ _ _)
    (λ h. let e = c.has_item.ensures.1 (subst (λ q. HasNumber (map item_of q) (to_z w128 (of_z w128 c.args.number))) (sym c.as_slice.ensures.value) (subst (λ z. HasNumber (map item_of c.args.items.now.root.items) z) (sym same) h)) in cc)
    (subst (λ z. IsTrue c.has_item-else-has_item.result ↔ HasNumber (map item_of c.args.items.now.additions.items) z) same
    (subst (λ q. IsTrue c.has_item-else-has_item.result ↔ HasNumber (map item_of q) (to_z w128 (of_z w128 c.args.number))) c.as_slice-else-has_item.ensures.value c.has_item-else-has_item.ensures))
