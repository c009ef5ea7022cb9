use Rattle.primitive_reader.proofs.Zeroes.{both_true, both_false}
use Rattle.primitive_reader.proofs.der.is_trimmed.Goals as goal

pub returns-then-is_filled : goal.returns-then-is_filled
returns-then-is_filled c = λ s w. both_true c.ends_in_one.result _ _ (c.if-is_filled.ensures s w) (c.ends_in_one.ensures s w)

pub returns-else-is_filled : goal.returns-else-is_filled
returns-else-is_filled c = λ s w. both_false c.is_filled.result _ _ c.if-is_filled.false (c.is_filled.ensures s w)
