use Rattle.std.proofs.Common.{◌∷◌, [], map, sym, ap, subst, ◌∙◌}
use Rattle.std.specs.Prelude.{option_map}
use Rattle.std.proofs.lemmas.List.{map-append}
use Rattle.asn_base.specs.Abstract.{abstract, present, row_of_options}
use Rattle.asn_base.specs.Abstract as value
use Rattle.views.specs.Tree.{element_values, value_of}
use Rattle.views.specs.Seen.{side_lists, Spell, SpellMembers, content_of}
use Rattle.views.proofs.Fronts.{none_left, leaf_shown, content_of_fields, content_of_list, content_of_alternative}
use Rattle.views.proofs.Filled.{onto, onto_more, onto_end, filled_none, filled_all, none_mapped, length_same}
use Rattle.views.proofs.view.+values.Goals as goal

pub elements-loop-at-preserved : goal.elements-loop-at-preserved
elements-loop-at-preserved t c ms p =
    let s = side_lists c.args.lists.now in
    let i = c.loop-at.invariant ms p in
    let n = c.next_of-end.ensures.next i.0 i.1 in
    let vs = map abstract c.loop-at.values.items in
    let v = c.in_ok-one.ensures c.next_of-end.result.0 n.tree (subst (λ q. Spell s q c.next_of-end.result.0 n.tree) (sym c.between.ensures) n.first) in
    let more = ap (map abstract) c.in_ok-add.ensures ∙ map-append abstract c.loop-at.values.items (c.in_ok-one.one ∷ []) in (
      n.rest,
      n.after,
      i.2
          ∙ ap (λ q. onto vs (element_values q)) n.is
          ∙ ap (λ q. onto vs (present q (element_values n.rest))) (sym v)
          ∙ sym (onto_more vs (abstract c.in_ok-one.one) (element_values n.rest))
          ∙ ap (λ q. onto q (element_values n.rest)) (sym more),
    )

pub elements-returns : goal.elements-returns
elements-returns t c ms p =
    let i = c.loop-at.invariant ms p in
    let e = none_left (side_lists c.args.lists.now) c.args.nodes.now c.loop-at.at i.0 i.1 c.loop-at-test.false in
    let vs = map abstract c.loop-at.values.items in
    sym (i.2 ∙ ap (λ q. onto vs (element_values q)) e ∙ onto_end vs)

pub fields-loop-at-init : goal.fields-loop-at-init
fields-loop-at-init t c ms p =
    let vs = c.in_ok-values.values.items in
    let a = c.in_ok-values.ensures in (
      ms,
      record { nodes = p.nodes; within = p.within },
      filled_none c.args.size ms (map (option_map abstract) vs) (length_same (option_map abstract) vs ∙ a.0) (λ i. none_mapped abstract vs i a.1),
    )

pub fields-returns : goal.fields-returns
fields-returns t c ms p =
    let i = c.loop-at.invariant ms p in
    filled_all c.args.size ms i.0 (map (option_map abstract) c.loop-at.values.items) i.2
    (none_left (side_lists c.args.lists.now) c.args.nodes.now c.loop-at.at i.0 i.1 c.loop-at-test.false)

pub value-returns-in_ok-fields-in-Fields : goal.value-returns-in_ok-fields-in-Fields
value-returns-in_ok-fields-in-Fields t c k u p =
    let s = side_lists c.args.lists.now in
    let d = content_of_fields s _ (content_of s c.first_of-content.result) u c.in-Fields.size c.in-Fields.extent (c.first_of-content.ensures.matches k u p) (ap (content_of s) c.in-Fields.is) in
    let e = c.in_ok-fields-in-Fields.ensures d.0 (subst (λ q. SpellMembers s q d.0) (sym c.below-rest.ensures) d.1) in
    c.lemma_abstract_values.ensures.fields_ c.in_ok-fields-in-Fields.field-0 ∙ ap (λ q. value.fields (row_of_options q)) e ∙ ap value_of (sym d.2)

pub value-returns-in_ok-elements-in-List : goal.value-returns-in_ok-elements-in-List
value-returns-in_ok-elements-in-List t c k u p =
    let s = side_lists c.args.lists.now in
    let d = content_of_list s _ (content_of s c.first_of-content.result) u c.in-List.extent (c.first_of-content.ensures.matches k u p) (ap (content_of s) c.in-List.is) in
    let e = c.in_ok-elements-in-List.ensures d.0 (subst (λ q. SpellMembers s q d.0) (sym c.below-rest.ensures) d.1) in
    c.lemma_abstract_values.ensures.list_ c.in_ok-elements-in-List.field-0 ∙ ap value.list e ∙ ap value_of (sym d.2)

pub value-returns-in_ok-new-in-Alternative : goal.value-returns-in_ok-new-in-Alternative
value-returns-in_ok-new-in-Alternative t c k u p =
    let s = side_lists c.args.lists.now in
    let d = content_of_alternative s _ (content_of s c.first_of-content.result) u c.in-Alternative.index c.in-Alternative.extent (c.first_of-content.ensures.matches k u p) (ap (content_of s) c.in-Alternative.is) in
    let e = c.in_ok-inner-in-Alternative.ensures 0 d.0 (subst (λ q. Spell s q 0 d.0) (sym c.below-rest.ensures) d.1) in
    c.lemma_abstract_values.ensures.alt c.in-Alternative.index c.in_ok-new-in-Alternative.field-0
    ∙ ap (λ q. value.alternative c.in-Alternative.index (abstract q)) c.in_ok-new-in-Alternative.ensures.ok
    ∙ ap (value.alternative c.in-Alternative.index) e
    ∙ ap value_of (sym d.2)

pub value-returns-in_ok-leaf_value-in_default : goal.value-returns-in_ok-leaf_value-in_default
value-returns-in_ok-leaf_value-in_default t c k u p =
    leaf_shown (side_lists c.args.lists.now) _ c.first_of-content.result u (c.first_of-content.ensures.matches k u p) c.in_default.not-Fields c.in_default.not-List c.in_default.not-Alternative c.in_ok-leaf_value-in_default.ensures
