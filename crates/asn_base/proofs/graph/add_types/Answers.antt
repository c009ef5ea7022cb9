use Rattle.std.proofs.Common.{◌≡◌, map, sym, ap, ◌∙◌}
use Rattle.std.proofs.lemmas.List.{map-append}
use Rattle.asn_base.specs.Seen.{alternative_of, component_of, kind_of}
use Rattle.asn_base.specs.Types.{a_sequence, a_set, a_choice}
use Rattle.asn_base.specs.Schemas.{types_in}
use Rattle.asn_base.proofs.Listings.{adds_both, adds_same}
use Rattle.asn_base.proofs.graph.add_types.Goals as goal

pub returns-in-Sequence : goal.returns-in-Sequence
returns-in-Sequence c =
    let k : kind_of c.args.core.now ≡ a_sequence c.in-Sequence.field-0 (map component_of c.as_slice.result.now) = ap kind_of c.in-Sequence.is ∙ ap (λ q. a_sequence c.in-Sequence.field-0 (map component_of q)) (sym c.as_slice.ensures.value) in
    adds_same c.add_components.result _ _ _ _ c.add_components.ensures (ap types_in (sym k))

pub returns-in-Set : goal.returns-in-Set
returns-in-Set c =
    let k : kind_of c.args.core.now ≡ a_set c.in-Set.field-0 (map component_of c.as_slice-in-Set.result.now) = ap kind_of c.in-Set.is ∙ ap (λ q. a_set c.in-Set.field-0 (map component_of q)) (sym c.as_slice-in-Set.ensures.value) in
    adds_same c.add_components-in-Set.result _ _ _ _ c.add_components-in-Set.ensures (ap types_in (sym k))

pub returns-in-SequenceOf : goal.returns-in-SequenceOf
returns-in-SequenceOf c = adds_same c.add.result _ _ _ _ c.add.ensures (ap types_in (sym (ap kind_of c.in-SequenceOf.is)))

pub returns-in-SetOf : goal.returns-in-SetOf
returns-in-SetOf c = adds_same c.add-in-SetOf.result _ _ _ _ c.add-in-SetOf.ensures (ap types_in (sym (ap kind_of c.in-SetOf.is)))

pub returns-in_ok-add_alternatives-in-Choice : goal.returns-in_ok-add_alternatives-in-Choice
returns-in_ok-add_alternatives-in-Choice c =
    let root = c.as_slice-in-Choice.result.now in
    let more = c.as_slice-in-Choice-2.result.now in
    let k : kind_of c.args.core.now ≡ a_choice (map alternative_of root) c.in-Choice.alternatives.extensible (map alternative_of more) = ap kind_of c.in-Choice.is ∙ ap (λ q. a_choice (map alternative_of q) c.in-Choice.alternatives.extensible (map alternative_of c.in-Choice.alternatives.additions.items)) (sym c.as_slice-in-Choice.ensures.value) ∙ ap (λ q. a_choice (map alternative_of root) c.in-Choice.alternatives.extensible (map alternative_of q)) (sym c.as_slice-in-Choice-2.ensures.value) in
    adds_both c.add_alternatives-in-Choice.result _ _ _ _ _ _ c.add_alternatives-in-Choice.ensures c.in_ok-add_alternatives-in-Choice.ensures
    (sym (map-append (λ d. d.type) (map alternative_of root) (map alternative_of more)) ∙ ap types_in (sym k))
