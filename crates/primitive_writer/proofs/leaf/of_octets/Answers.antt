use Rattle.std.proofs.Common.{ap, subst, ◌∙◌}
use Rattle.std.specs.Int.Digits.{AllBelowBase}
use Rattle.asn_base.specs.Abstract.{abstract}
use Rattle.primitive_writer.proofs.Contents.{has_octets}
use Rattle.primitive_writer.proofs.leaf.of_octets.Goals as goal

pub returns-in-Octets : goal.returns-in-Octets
returns-in-Octets c = has_octets (ap abstract c.in-Octets.is ∙ c.lemma_abstract_values.ensures.octets_ c.in-Octets.octets) c.as_slice-in-Octets.ensures.value (subst (λ q. AllBelowBase 256 q) c.as_slice.ensures.value c.are_octets.ensures)
