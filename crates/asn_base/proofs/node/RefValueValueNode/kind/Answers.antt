use Rattle.std.proofs.Common.{ap, refl, ◌∙◌}
use Rattle.asn_base.specs.Abstract.{abstract}
use Rattle.asn_base.proofs.Nodes.{shown_fields}
use Rattle.asn_base.proofs.node.RefValueValueNode.kind.Goals as goal

pub returns-in-Fields : goal.returns-in-Fields
returns-in-Fields c =
    shown_fields _ c.in-Fields.values.items _ _ (ap abstract c.in-Fields.is ∙ c.lemma_abstract_values.ensures.fields_ c.in-Fields.values) c.as_slice-parts.ensures.value refl
