use Rattle.std.proofs.Common.{ap, ◌∙◌}
use Rattle.asn_base.specs.Abstract.{abstract}
use Rattle.primitive_writer.proofs.Contents.{has_bits}
use Rattle.primitive_writer.proofs.leaf.of_bits.Goals as goal

pub returns-in-Bits : goal.returns-in-Bits
returns-in-Bits c = has_bits (ap abstract c.in-Bits.is ∙ c.lemma_abstract_values.ensures.bits_ c.in-Bits.bits) c.filled.ensures
