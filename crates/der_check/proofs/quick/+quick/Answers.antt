use Rattle.std.proofs.Common.{arith, ◌+◌, ◌-◌, [], length, drop, refl, sym, ap, subst, ◌∙◌, true}
use Rattle.std.proofs.lemmas.List.{append-nil}
use Rattle.std.specs.Prelude.{option_map}
use Rattle.asn_base.specs.Abstract.{row_of_options}
use Rattle.encodings.specs.Orders.{AtMost}
use Rattle.views.specs.Tree.{element_values, value_of}
use Rattle.der_check.specs.Strict.{components_of}
use Rattle.der_check.proofs.Leafs.{leaf_shown}
use Rattle.der_check.proofs.Orders.{AscendsFrom, ascends_begin, ascends_next, ascends_end}
use Rattle.der_check.proofs.Placing.{no_place, place_taken, later_left, small_place}
use Rattle.der_check.proofs.Shortened.{if_some}
use Rattle.der_check.proofs.Taking.{sequence_begin, take_next, elements_begin, take_element, elements_end}
use Rattle.der_check.proofs.Deciding.{as_sequence, as_set, list_at, list_given}
use Rattle.der_check.proofs.Passing.{leaf_passes, framed_passes, choice_passes, contents_as, chosen_given, leaf_contents, sequence_next, sequence_passed, member_first, member_by, absent_by, member_given, elements_next, elements_left, SequencePasses, ElementsPass}
use Rattle.der_check.proofs.quick.+quick.Goals as goal

pub quick_value-returns-in-Some : goal.quick_value-returns-in-Some
quick_value-returns-in-Some t c = λ x r g e l. leaf_passes c.header_laws.ensures.none_begins_another r c.lemma_invariant.ensures c.in-Leaf.ensures.0 c.in-Some.ensures g e

pub quick_steps-returns-then-quick_contents : goal.quick_steps-returns-then-quick_contents
quick_steps-returns-then-quick_contents t c = λ x r g e l.
    let h = c.in-Some-Head-default in
    framed_passes c.header_laws.ensures.none_begins_another r (c.args.levels - 1) (omega (arith, c.if-levels-eq0.false)) c.lemma_invariant.ensures c.steps-steps.ensures h.ensures.cases.0 h.field-0-0-is c.in-Some.ensures c.distance.ensures (c.in-Ok.steps.now, c.in-Ok.contents.now, c.in-Ok.ensures, λ k q. c.quick_contents.ensures k q c.if-quick_contents.true) g e

pub quick_steps-returns-in-Some-alternative_at : goal.quick_steps-returns-in-Some-alternative_at
quick_steps-returns-in-Some-alternative_at t c = λ x r g e l.
    let p = c.in-Some-Pick-default in
    let o = choice_passes c.header_laws.ensures.none_begins_another (c.args.levels - 1) (omega (arith, c.if-levels-eq0.false)) c.lemma_invariant.ensures c.steps-steps.ensures p.ensures.cases.0 p.field-0-0-is (ap value_of c.in-Alternative.ensures) c.in-Some-alternative_at.ty c.in-Some-alternative_at.is c.alternative_at.ensures g in
    if_some c.quick_value.result (λ n a. (a.0, (a.1.0, o.there a.1.0 a.1.1))) (c.quick_value.ensures x r o.given e l)

pub quick_contents-returns-in-Fields : goal.quick_contents-returns-in-Fields
quick_contents-returns-in-Fields t c = contents_as (ap value_of c.in-Fields.ensures) c.quick_fields.ensures

pub quick_contents-returns-in-List : goal.quick_contents-returns-in-List
quick_contents-returns-in-List t c = contents_as (ap value_of c.in-List.ensures) c.quick_list.ensures

pub quick_contents-returns-in-Some-quick_value : goal.quick_contents-returns-in-Some-quick_value
quick_contents-returns-in-Some-quick_value t c = contents_as (ap value_of c.in-Alternative.ensures) (λ k g y.
    let q = chosen_given c.in-Some.ty c.in-Some.is c.alternative_at.ensures k g in
    let a = (c.in-Some-quick_value.ensures c.args.contents.now [] q.given (sym (append-nil c.args.contents.now)) g.short).1 in
    (a.0, q.there a.0 a.1))

pub quick_contents-returns-in_default : goal.quick_contents-returns-in_default
quick_contents-returns-in_default t c =
    leaf_contents refl
    (leaf_shown c.args.part.now c.value_kind.result c.value_kind.ensures c.in_default.not-Fields c.in_default.not-List c.in_default.not-Alternative)
    c.is_strict_leaf.ensures

pub quick_fields-returns-in-Ok : goal.quick_fields-returns-in-Ok
quick_fields-returns-in-Ok t c = λ k g y.
    let a = as_set c.header_laws.ensures.none_begins_another c.lemma_invariant.ensures k (sym c.is_ranked.ensures ∙ c.if-is_ranked.true) g in
    let d = (c.in-Ok.ensures a.all a.known a.in_order a.others a.units a.given).0 in
    (d.0, a.there d.0 d.1)

pub quick_fields-returns-else-is_ranked : goal.quick_fields-returns-else-is_ranked
quick_fields-returns-else-is_ranked t c = λ k g y.
    let a = as_sequence c.header_laws.ensures.none_begins_another c.lemma_invariant.ensures k (sym c.is_ranked.ensures ∙ c.if-is_ranked.false) g in
    let d = c.quick_sequence.ensures a.all a.known a.others a.given y in
    (d.0, a.there d.0 d.1)

pub quick_sequence-loop-i-init : goal.quick_sequence-loop-i-init
quick_sequence-loop-i-init t c = λ cs xs us g. (λ j l. refl, (true, sequence_begin g))

pub quick_sequence-loop-i-preserved : goal.quick_sequence-loop-i-preserved
quick_sequence-loop-i-preserved t c = λ cs xs us g.
    let os = components_of c.args.size c.args.members in
    let v = c.loop-i.invariant cs xs us g in
    let small = small_place c.args.size c.loop-i.i c.args.members c.loop-i-test.true g.few_places in
    let found = c.next_component-found.ensures.found small in
    let k = take_next (option_map value_of c.next_component-found.result) (drop (c.loop-i.i + 1) os) (λ d w y r j n. c.lemma_broken.ensures.member c.args.at.judge.code.now d w y r j n c.lemma_invariant.ensures) g.few g.steps v.1.1 (place_taken c.args.size c.loop-i.i c.args.members c.loop-i.left _ c.loop-i-test.true v.0 found) in
    let d = c.in-Some.ensures k.component k.encoding k.following k.given k.first in (
      later_left c.loop-i.i c.args.members c.loop-i.left _ v.0 (c.next_component-found.ensures.later small),
      subst (λ q. SequencePasses c.args.at.judge.code.now c.args.at.levels cs (row_of_options os) xs us (c.loop-i.i + 1) (drop (c.loop-i.i + 1) os) q (length c.args.contents.now)) (sym d.0) (sequence_next k d.1),
    )

pub quick_sequence-returns : goal.quick_sequence-returns
quick_sequence-returns t c = λ cs xs us g y. sequence_passed (c.loop-i.invariant cs xs us g).1 (no_place c.args.size _ c.loop-i.i c.loop-i-test.false)

pub quick_next-returns-in-Some-quick_member : goal.quick_next-returns-in-Some-quick_member
quick_next-returns-in-Some-quick_member t c = λ d x r pg sf.
    let e = ap (option_map value_of) c.in-Some.is in
    let f = member_first (value_of c.in-Some.part) x r c.args.octets.now e pg sf in
    let p = c.in-Some-quick_member.ensures d x r f.0 f.1 f.2 in
    ((c.divided.ensures x r f.1 p.0).1, member_by (value_of c.in-Some.part) e p.1)

pub quick_next-returns-in-None : goal.quick_next-returns-in-None
quick_next-returns-in-None t c = λ d x r pg sf. absent_by c.args.at.judge.code.now d x r c.args.octets.now (ap (option_map value_of) c.in-None.is) sf

pub quick_member-returns : goal.quick_member-returns
quick_member-returns t c = λ d x r m e l.
    let n = member_given c.field_at.result c.in-Some.field c.is_no_default.result c.in-Some.is c.field_at.ensures c.is_no_default.ensures c.if-not-is_no_default.false c.lemma_invariant.ensures c.lemma_levels_grow.ensures m in
    if_some c.quick_value.result (λ q p. (p.0, (p.1.0, n.there p.1.0 p.1.1))) (c.quick_value.ensures x r n.given e l)

pub quick_list-returns : goal.quick_list-returns
quick_list-returns t c = λ k g y.
    let l = list_at c.in-Some.element c.in-Some.sorted (list_given c.header_laws.ensures.none_begins_another c.lemma_invariant.ensures k g) (sym c.element_type.ensures ∙ c.in-Some.is) in
    let d = c.quick_elements.ensures l.encodings l.given y in
    (d.0.0, l.there d.0.0 d.1 d.0.1)

pub quick_elements-loop-part-init : goal.quick_elements-loop-part-init
quick_elements-loop-part-init t c = λ xs g. ((true, elements_begin g), λ y. ascends_begin xs c.args.contents.now g.units)

pub quick_elements-loop-part-preserved : goal.quick_elements-loop-part-preserved
quick_elements-loop-part-preserved t c = λ xs g.
    let s = c.args.at.judge.code.now in
    let v = c.loop-part.invariant xs g in
    let k = take_element (value_of c.in-Some.part) (element_values c.next.new.self) (λ w y r j n. c.lemma_broken.ensures.value s c.args.id.index j n w y r c.lemma_invariant.ensures) g.few v.0.1 (ap element_values c.in-Some.ensures.steps) in
    let p = c.in-Some-quick_value.ensures k.encoding k.following k.given k.first k.short in
    let d = c.divided.ensures k.encoding k.following k.first p.0 in (
      subst (λ q. ElementsPass s c.args.id.index c.args.at.levels (element_values c.args.members) xs (element_values c.next.new.self) q (length c.args.contents.now)) (sym d.1) (elements_next k p.1),
      λ y. subst (λ q. AscendsFrom xs c.divided.result.0.now q (length c.args.contents.now)) (sym d.1)
          (subst (λ q. AscendsFrom xs q k.following (length c.args.contents.now)) (sym d.0)
          (ascends_next c.header_laws.ensures.none_begins_another (v.1 y) k.unit.1 k.first (subst (AtMost c.loop-part.last.now) d.0 (c.is_in_order.ensures c.if-not-is_in_order.false y)))),
    )

pub quick_elements-returns : goal.quick_elements-returns
quick_elements-returns t c = λ xs g y.
    let v = c.loop-part.invariant xs g in
    let e = ap element_values c.in_default.ensures.steps.0 in
    let d = elements_end v.0.1 e in
    ((d.0, d.1), λ z. ascends_end (v.1 z) (elements_left v.0.1 e))
