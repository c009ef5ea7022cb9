use Rattle.std.proofs.Common.{refl, ap, ◌∙◌}
use Rattle.asn_base.specs.Abstract.{abstract}
use Rattle.primitive_writer.proofs.Contents.{has_boolean}
use Rattle.primitive_writer.proofs.leaf.of_boolean.Goals as goal

pub returns-in-Bool : goal.returns-in-Bool
returns-in-Bool c = has_boolean (ap abstract c.in-Bool.is ∙ c.lemma_abstract_values.ensures.bool c.in-Bool.truth) refl c.truth_octet.ensures
