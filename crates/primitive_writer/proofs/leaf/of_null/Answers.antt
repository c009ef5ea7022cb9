use Rattle.std.proofs.Common.{refl, ap, ◌∙◌}
use Rattle.asn_base.specs.Abstract.{abstract}
use Rattle.primitive_writer.proofs.Contents.{has_null}
use Rattle.primitive_writer.proofs.leaf.of_null.Goals as goal

pub returns-in-Null : goal.returns-in-Null
returns-in-Null c = has_null (ap abstract c.in-Null.is ∙ c.lemma_abstract_values.ensures.null_) refl
