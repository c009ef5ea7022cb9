use Rattle.std.proofs.Common.{ap, refl, subst, ◌∙◌}
use Rattle.std.specs.Prelude.{flat_map}
use Rattle.encodings.specs.Header.{septets}
use Rattle.asn_base.specs.Typed.{IsRelativeOid}
use Rattle.asn_base.specs.Abstract.{abstract}
use Rattle.primitive_writer.proofs.Contents.{has_relative_oid}
use Rattle.primitive_writer.proofs.leaf.of_relative_oid.Goals as goal

pub returns-then-is_relative_oid : goal.returns-then-is_relative_oid
returns-then-is_relative_oid c =
    has_relative_oid (ap abstract c.in-RelativeOid.is ∙ c.lemma_abstract_values.ensures.relative_oid_ c.in-RelativeOid.numbers)
    (c.relative_oid.ensures ∙ ap (λ q. flat_map septets q) c.as_slice-then-is_relative_oid.ensures.value)
    (subst IsRelativeOid c.as_slice.ensures.value (c.if-is_relative_oid.ensures.0 refl))
