use Rattle.std.proofs.Common.{◌≡◌, map, sym, ap, ◌∙◌}
use Rattle.std.proofs.lemmas.List.{map-append}
use Rattle.asn_base.specs.Seen.{alternative_of, component_of, item_of, kind_of, named_bit_of}
use Rattle.asn_base.specs.Types.{a_named_bit_string, a_sequence, a_set, a_choice, an_enumerated}
use Rattle.asn_base.specs.Rules.{names_in}
use Rattle.asn_base.proofs.Listings.{adds_both, adds_same}
use Rattle.asn_base.proofs.members.add_names.Goals as goal

pub returns-in_ok-add_items-in-Enumerated : goal.returns-in_ok-add_items-in-Enumerated
returns-in_ok-add_items-in-Enumerated c =
    let root = c.as_slice.result.now in
    let more = c.as_slice-in-Enumerated.result.now in
    let k : kind_of c.args.core.now ≡ an_enumerated (map item_of root) c.in-Enumerated.items.extensible (map item_of more) = ap kind_of c.in-Enumerated.is ∙ ap (λ q. an_enumerated (map item_of q) c.in-Enumerated.items.extensible (map item_of c.in-Enumerated.items.additions.items)) (sym c.as_slice.ensures.value) ∙ ap (λ q. an_enumerated (map item_of root) c.in-Enumerated.items.extensible (map item_of q)) (sym c.as_slice-in-Enumerated.ensures.value) in
    adds_both c.add_items-in-Enumerated.result _ _ _ _ _ _ c.add_items-in-Enumerated.ensures c.in_ok-add_items-in-Enumerated.ensures
    (sym (map-append (λ d. d.name) (map item_of root) (map item_of more)) ∙ ap names_in (sym k))

pub returns-in-NamedBits : goal.returns-in-NamedBits
returns-in-NamedBits c =
    let k : kind_of c.args.core.now ≡ a_named_bit_string (map named_bit_of c.as_slice-in-NamedBits.result.now) = ap kind_of c.in-NamedBits.is ∙ ap (λ q. a_named_bit_string (map named_bit_of q)) (sym c.as_slice-in-NamedBits.ensures.value) in
    adds_same c.add_bits.result _ _ _ _ c.add_bits.ensures (ap names_in (sym k))

pub returns-in-Sequence : goal.returns-in-Sequence
returns-in-Sequence c =
    let k : kind_of c.args.core.now ≡ a_sequence c.in-Sequence.field-0 (map component_of c.as_slice-in-Sequence.result.now) = ap kind_of c.in-Sequence.is ∙ ap (λ q. a_sequence c.in-Sequence.field-0 (map component_of q)) (sym c.as_slice-in-Sequence.ensures.value) in
    adds_same c.add_components.result _ _ _ _ c.add_components.ensures (ap names_in (sym k))

pub returns-in-Set : goal.returns-in-Set
returns-in-Set c =
    let k : kind_of c.args.core.now ≡ a_set c.in-Set.field-0 (map component_of c.as_slice-in-Set.result.now) = ap kind_of c.in-Set.is ∙ ap (λ q. a_set c.in-Set.field-0 (map component_of q)) (sym c.as_slice-in-Set.ensures.value) in
    adds_same c.add_components-in-Set.result _ _ _ _ c.add_components-in-Set.ensures (ap names_in (sym k))

pub returns-in_ok-add_alternatives-in-Choice : goal.returns-in_ok-add_alternatives-in-Choice
returns-in_ok-add_alternatives-in-Choice c =
    let root = c.as_slice-in-Choice.result.now in
    let more = c.as_slice-in-Choice-2.result.now in
    let k : kind_of c.args.core.now ≡ a_choice (map alternative_of root) c.in-Choice.alternatives.extensible (map alternative_of more) = ap kind_of c.in-Choice.is ∙ ap (λ q. a_choice (map alternative_of q) c.in-Choice.alternatives.extensible (map alternative_of c.in-Choice.alternatives.additions.items)) (sym c.as_slice-in-Choice.ensures.value) ∙ ap (λ q. a_choice (map alternative_of root) c.in-Choice.alternatives.extensible (map alternative_of q)) (sym c.as_slice-in-Choice-2.ensures.value) in
    adds_both c.add_alternatives-in-Choice.result _ _ _ _ _ _ c.add_alternatives-in-Choice.ensures c.in_ok-add_alternatives-in-Choice.ensures
    (sym (map-append (λ d. d.name) (map alternative_of root) (map alternative_of more)) ∙ ap names_in (sym k))
