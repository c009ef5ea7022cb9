use Rattle.std.proofs.Common.{ap, subst, ◌∙◌}
use Rattle.std.specs.Int.Digits.{AllBelowBase}
use Rattle.asn_base.specs.Abstract.{abstract}
use Rattle.primitive_writer.proofs.Contents.{has_restricted}
use Rattle.primitive_writer.proofs.leaf.of_restricted.Goals as goal

pub returns-in-Text : goal.returns-in-Text
returns-in-Text c = has_restricted (ap abstract c.in-Text.is ∙ c.lemma_abstract_values.ensures.text_ c.in-Text.text) c.as_bytes-in-Text.ensures.value (subst (λ q. AllBelowBase 256 q) c.as_bytes.ensures.value c.are_octets.ensures)
