use Rattle.std.proofs.Common.{arith, ◌≡◌, ℕ, List, ◌+◌, ◌<◌, length, map, drop, take, sym, subst, ap, ◌∙◌}
use Rattle.std.specs.Prelude.{option_map}
use Rattle.std.proofs.lemmas.List.{take-map}
use Rattle.asn_base.specs.declared.value.Value.{Value}
use Rattle.asn_base.specs.Abstract.{abstract, row_of_list}
use Rattle.asn_base.specs.Decided.{IsRarer}
use Rattle.asn_base.specs.Seen.{component_of, kind_of}
use Rattle.asn_base.specs.Types.{a_sequence, a_set}
use Rattle.asn_base.specs.Typed.{AreComponents, AreElements}
use Rattle.asn_base.specs.Same.{AlikeComponents, AlikeElements, AlikeInAnyOrder}
use Rattle.asn_base.proofs.Leaves.{yes, no}
use Rattle.asn_base.proofs.Parts.{with_core, as_many, no_first}
use Rattle.asn_base.proofs.Comparing.{Counting, of_type, rowwise, sequences, sets, lists_of, bags_of, choices, opened_fields, fields_next, fields_end, opened_pairs, pairs_next, pairs_end, as_many_pairs, elements_to, element_at, rarer_next, rarer_end, not_rarer, as_many_in_any, fewer_counted, one_of, count_one, count_none, count_end}
use Rattle.asn_base.proofs.same.+alike.Goals.{count-then-are_alike, count-else-are_alike}
use Rattle.asn_base.proofs.same.+alike.Goals as goal
use Rattle.asn_base.specs.proving.Lists.{length_mapped, drop_is, drop_end}

pub are_alike-returns : goal.are_alike-returns
are_alike-returns t c = of_type c.args.within.schema.now c.args.within.levels c.args.id.index _ (omega arith) (with_core c.args.within.schema.now c.args.id.index c.get.result.now c.get.ensures.is c.deref-core.ensures) c.are_alike_by.ensures

pub are_alike_by-returns-in-Sequence : goal.are_alike_by-returns-in-Sequence
are_alike_by-returns-in-Sequence t c =
    let s = c.args.within.schema.now in
    let cs = map component_of c.as_slice.result.now in
    sequences s c.args.within.levels (ap kind_of c.in-Sequence.is ∙ ap (λ q. a_sequence c.in-Sequence.field-0 (map component_of q)) (sym c.as_slice.ensures.value))
    (λ vs ws e f. rowwise (AreComponents s c.args.within.levels cs) (AlikeComponents s cs) (c.fields_of.ensures vs e) (c.fields_of-in-Sequence.ensures ws f) c.are_alike_fields.ensures)

pub are_alike_by-returns-in-Set : goal.are_alike_by-returns-in-Set
are_alike_by-returns-in-Set t c =
    let s = c.args.within.schema.now in
    let cs = map component_of c.as_slice-in-Set.result.now in
    sets s c.args.within.levels (ap kind_of c.in-Set.is ∙ ap (λ q. a_set c.in-Set.field-0 (map component_of q)) (sym c.as_slice-in-Set.ensures.value))
    (λ vs ws e f. rowwise (AreComponents s c.args.within.levels cs) (AlikeComponents s cs) (c.fields_of-in-Set.ensures vs e) (c.fields_of-in-Set-2.ensures ws f) c.are_alike_fields-in-Set.ensures)

pub are_alike_by-returns-in-SequenceOf : goal.are_alike_by-returns-in-SequenceOf
are_alike_by-returns-in-SequenceOf t c =
    let s = c.args.within.schema.now in
    let u = c.in-SequenceOf.element.index in
    lists_of s c.args.within.levels (ap kind_of c.in-SequenceOf.is)
    (λ vs ws e f. rowwise (AreElements s c.args.within.levels u) (AlikeElements s u) (c.elements_of.ensures vs e) (c.elements_of-in-SequenceOf.ensures ws f) c.are_alike_in_order.ensures)

pub are_alike_by-returns-in-SetOf : goal.are_alike_by-returns-in-SetOf
are_alike_by-returns-in-SetOf t c =
    let s = c.args.within.schema.now in
    let u = c.in-SetOf.element.index in
    bags_of s c.args.within.levels (ap kind_of c.in-SetOf.is)
    (λ vs ws e f. rowwise (AreElements s c.args.within.levels u) (AlikeInAnyOrder s u) (c.elements_of-in-SetOf.ensures vs e) (c.elements_of-in-SetOf-2.ensures ws f) c.are_alike_in_any.ensures)

pub are_alike_by-returns-in-Choice : goal.are_alike_by-returns-in-Choice
are_alike_by-returns-in-Choice t c = choices c.args.within.schema.now c.args.within.levels (ap kind_of c.in-Choice.is) c.are_alike_choices.ensures

pub are_alike_fields-returns-then-components-first : goal.are_alike_fields-returns-then-components-first
are_alike_fields-returns-then-components-first t c = λ a b.
    absurd (c.if-components-first.true (sym (length_mapped component_of c.args.components.now) ∙ as_many (map component_of c.args.components.now) (map (option_map abstract) c.args.first.now) a ∙ length_mapped (option_map abstract) c.args.first.now))

pub are_alike_fields-returns-then-components-second : goal.are_alike_fields-returns-then-components-second
are_alike_fields-returns-then-components-second t c = λ a b.
    absurd (c.if-components-second.true (sym (length_mapped component_of c.args.components.now) ∙ as_many (map component_of c.args.components.now) (map (option_map abstract) c.args.second.now) b ∙ length_mapped (option_map abstract) c.args.second.now))

pub are_alike_fields-returns-then-not-are_alike_at : goal.are_alike_fields-returns-then-not-are_alike_at
are_alike_fields-returns-then-not-are_alike_at t c = λ a b.
    let lt : c.loop-i.i < length c.args.first.now = omega arith in
    let lt' : c.loop-i.i < length c.args.second.now = omega arith in
    let o = opened_fields (drop_is component_of c.args.components.now c.loop-i.i c.index-components-i.result c.loop-i-test.true c.index-components-i.is) (drop_is (option_map abstract) c.args.first.now c.loop-i.i c.index-first-i.result lt c.index-first-i.is) (drop_is (option_map abstract) c.args.second.now c.loop-i.i c.index-second-i.result lt' c.index-second-i.is) (c.loop-i.invariant a b) in
    no (no_first o.left (λ h. let e = (c.are_alike_at.ensures o.one o.other).1 h in cc))

pub are_alike_fields-loop-i-preserved : goal.are_alike_fields-loop-i-preserved
are_alike_fields-loop-i-preserved t c = λ a b.
    let lt : c.loop-i.i < length c.args.first.now = omega arith in
    let lt' : c.loop-i.i < length c.args.second.now = omega arith in
    let o = opened_fields (drop_is component_of c.args.components.now c.loop-i.i c.index-components-i.result c.loop-i-test.true c.index-components-i.is) (drop_is (option_map abstract) c.args.first.now c.loop-i.i c.index-first-i.result lt c.index-first-i.is) (drop_is (option_map abstract) c.args.second.now c.loop-i.i c.index-second-i.result lt' c.index-second-i.is) (c.loop-i.invariant a b) in
    fields_next o ((c.are_alike_at.ensures o.one o.other).0 c.if-not-are_alike_at.false)

pub are_alike_fields-returns : goal.are_alike_fields-returns
are_alike_fields-returns t c = λ a b.
    yes (fields_end (drop_end component_of c.args.components.now c.loop-i.i c.loop-i-test.false) (drop_end (option_map abstract) c.args.first.now c.loop-i.i (omega arith)) (drop_end (option_map abstract) c.args.second.now c.loop-i.i (omega arith)) (c.loop-i.invariant a b))

pub are_alike_in_order-returns-then-first-second : goal.are_alike_in_order-returns-then-first-second
are_alike_in_order-returns-then-first-second t c = λ a b.
    no (λ h. c.if-first-second.true (sym (length_mapped abstract c.args.first.now) ∙ as_many_pairs (map abstract c.args.first.now) (map abstract c.args.second.now) h ∙ length_mapped abstract c.args.second.now))

pub are_alike_in_order-returns-then-not-are_alike : goal.are_alike_in_order-returns-then-not-are_alike
are_alike_in_order-returns-then-not-are_alike t c = λ a b.
    let lt' : c.loop-i.i < length c.args.second.now = omega arith in
    let o = opened_pairs (drop_is abstract c.args.first.now c.loop-i.i c.index-first-i.result c.loop-i-test.true c.index-first-i.is) (drop_is abstract c.args.second.now c.loop-i.i c.index-second-i.result lt' c.index-second-i.is) (c.loop-i.invariant a b) in
    no (no_first o.left (λ h. let e = (c.are_alike.ensures o.one o.other).1 h in cc))

pub are_alike_in_order-loop-i-preserved : goal.are_alike_in_order-loop-i-preserved
are_alike_in_order-loop-i-preserved t c = λ a b.
    let lt' : c.loop-i.i < length c.args.second.now = omega arith in
    let o = opened_pairs (drop_is abstract c.args.first.now c.loop-i.i c.index-first-i.result c.loop-i-test.true c.index-first-i.is) (drop_is abstract c.args.second.now c.loop-i.i c.index-second-i.result lt' c.index-second-i.is) (c.loop-i.invariant a b) in
    pairs_next o ((c.are_alike.ensures o.one o.other).0 c.if-not-are_alike.false)

pub are_alike_in_order-returns : goal.are_alike_in_order-returns
are_alike_in_order-returns t c = λ a b.
    yes (pairs_end (drop_end abstract c.args.first.now c.loop-i.i c.loop-i-test.false) (drop_end abstract c.args.second.now c.loop-i.i (omega arith)) (c.loop-i.invariant a b))

pub are_alike_in_any-returns-then-second-first : goal.are_alike_in_any-returns-then-second-first
are_alike_in_any-returns-then-second-first t c = λ a b.
    no (λ h. c.if-second-first.true (sym (sym (length_mapped abstract c.args.first.now) ∙ as_many_in_any (map abstract c.args.first.now) (map abstract c.args.second.now) h ∙ length_mapped abstract c.args.second.now)))

-- the elements before a place are those of the list in memory
front_of : (vs : List Value) (fs : List Value) (i : ℕ) → fs ≡ take i vs → map abstract fs ≡ take i (map abstract vs)
front_of vs fs i e = ap (map abstract) e ∙ sym (take-map abstract i vs)

pub are_alike_in_any-returns-then-not-is_rarer : goal.are_alike_in_any-returns-then-not-is_rarer
are_alike_in_any-returns-then-not-is_rarer t c = λ a b.
    let s = c.args.within.schema.now in
    let u = c.args.element.index in
    let vs = map abstract c.args.first.now in
    let at = drop_is abstract c.args.first.now c.loop-i.i c.index-first-i.result c.loop-i-test.true c.index-first-i.is in
    let q = front_of c.args.first.now c.first_elements.result.now c.loop-i.i c.first_elements.ensures in
    no (not_rarer c.loop-i.i vs (map abstract c.args.second.now) a at (λ h.
    let e = (c.is_rarer.ensures (element_at c.loop-i.i vs at a) (subst (λ k. AreElements s c.args.within.levels u (row_of_list k)) (sym q) (elements_to c.loop-i.i vs a)) b).1 (subst (λ k. IsRarer s u (abstract c.index-first-i.result) (row_of_list k) (row_of_list (map abstract c.args.second.now))) (sym q) h) in
    cc))

pub are_alike_in_any-loop-i-preserved : goal.are_alike_in_any-loop-i-preserved
are_alike_in_any-loop-i-preserved t c =
    let s = c.args.within.schema.now in
    let u = c.args.element.index in
    let vs = map abstract c.args.first.now in
    let at = drop_is abstract c.args.first.now c.loop-i.i c.index-first-i.result c.loop-i-test.true c.index-first-i.is in
    let q = front_of c.args.first.now c.first_elements.result.now c.loop-i.i c.first_elements.ensures in
    rarer_next (map abstract c.args.second.now) c.loop-i.invariant at (λ a b.
    subst (λ k. IsRarer s u (abstract c.index-first-i.result) (row_of_list k) (row_of_list (map abstract c.args.second.now))) q
    ((c.is_rarer.ensures (element_at c.loop-i.i vs at a) (subst (λ k. AreElements s c.args.within.levels u (row_of_list k)) (sym q) (elements_to c.loop-i.i vs a)) b).0 c.if-not-is_rarer.false))

pub are_alike_in_any-returns : goal.are_alike_in_any-returns
are_alike_in_any-returns t c = λ a b.
    let many = length_mapped abstract c.args.first.now ∙ sym c.if-second-first.false ∙ sym (length_mapped abstract c.args.second.now) in
    let l = length_mapped abstract c.args.first.now in
    let f = c.loop-i-test.false in
    yes (rarer_end (map abstract c.args.second.now) (omega arith) many a b c.loop-i.invariant)

pub is_rarer-returns : goal.is_rarer-returns
is_rarer-returns t c = λ x a b. fewer_counted c.args.within.schema.now c.args.element.index (abstract c.args.value.now) _ _ c.count.result c.count-2.result (c.count.ensures x a) (c.count-2.ensures x b)

pub count-loop-i-preserved : goal.count-loop-i-preserved
count-loop-i-preserved t c =
    let at = drop_is abstract c.args.elements.now c.loop-i.i c.index-elements-i.result c.loop-i-test.true c.index-elements-i.is in
    elim c.if-are_alike.branch [
      | count-then-are_alike w ↦ (
        omega (arith, w.found-is, c.loop-i.invariant.0),
        λ x a.
            let b = c.loop-i.invariant.1 x a in
            subst (λ q. Counting c.args.within.schema.now c.args.within.levels c.args.element.index (abstract c.args.value.now) (map abstract c.args.elements.now) (drop (c.loop-i.i + 1) (map abstract c.args.elements.now)) q) (sym w.found-is)
            (count_one at b ((c.are_alike.ensures x (one_of at b)).0 w.if-are_alike.true)),
      )
      | count-else-are_alike w ↦ (
        omega (arith, w.found-is, c.loop-i.invariant.0),
        λ x a.
            let b = c.loop-i.invariant.1 x a in
            subst (λ q. Counting c.args.within.schema.now c.args.within.levels c.args.element.index (abstract c.args.value.now) (map abstract c.args.elements.now) (drop (c.loop-i.i + 1) (map abstract c.args.elements.now)) q) (sym w.found-is)
            (count_none at b (λ h. let e = (c.are_alike.ensures x (one_of at b)).1 h in let f = w.if-are_alike.false in cc)),
      )
    ]

pub count-returns : goal.count-returns
count-returns t c = λ x a. count_end (drop_end abstract c.args.elements.now c.loop-i.i c.loop-i-test.false) (c.loop-i.invariant.1 x a)
