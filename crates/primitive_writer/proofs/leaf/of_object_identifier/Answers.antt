use Rattle.std.proofs.Common.{ap, refl, subst, ◌∙◌}
use Rattle.std.specs.Prelude.{flat_map}
use Rattle.encodings.specs.Header.{septets}
use Rattle.encodings.specs.Contents.{joined}
use Rattle.asn_base.specs.Typed.{IsObjectIdentifier}
use Rattle.asn_base.specs.Abstract.{abstract}
use Rattle.primitive_writer.proofs.Contents.{has_oid}
use Rattle.primitive_writer.proofs.leaf.of_object_identifier.Goals as goal

pub returns-then-is_object_identifier : goal.returns-then-is_object_identifier
returns-then-is_object_identifier c =
    has_oid (ap abstract c.in-Oid.is ∙ c.lemma_abstract_values.ensures.oid_ c.in-Oid.numbers)
    (c.object_identifier.ensures ∙ ap (λ q. flat_map septets (joined q)) c.as_slice-then-is_object_identifier.ensures.value)
    (subst IsObjectIdentifier c.as_slice.ensures.value (c.if-is_object_identifier.ensures.0 refl))
