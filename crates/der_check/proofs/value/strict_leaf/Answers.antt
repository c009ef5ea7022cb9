use Rattle.der_check.proofs.Frames.{primitive_first}
use Rattle.der_check.proofs.Leafs.{if_not}
use Rattle.der_check.proofs.value.strict_leaf.Goals as goal

pub returns-else-is_strict_leaf : goal.returns-else-is_strict_leaf
returns-else-is_strict_leaf c = λ k ss v e h. (
  λ i j d. if_not c.if-is_strict_leaf.false (c.is_strict_leaf.ensures k ss v e h) d.1,
  let b = c.leaf_breach.ensures k ss v e h (if_not c.if-is_strict_leaf.false (c.is_strict_leaf.ensures k ss v e h)) in
      (record { broken = b.0; none_before = λ q m f. primitive_first b.0 f }, b.1),
)
