use Rattle.std.proofs.Common.{rules, arith, ap, sym, subst, refl, ◌≡◌, ◌∙◌, ◌++◌, ◌+◌, ◌-◌, ◌<◌, length, map, drop}
use Rattle.std.specs.Prelude.{Some, option_map}
use Rattle.asn_base.specs.declared.schema.Core.{Core}
use Rattle.asn_base.specs.Abstract.{abstract}
use Rattle.asn_base.specs.Schemas.{HasValue}
use Rattle.asn_base.specs.Seen.{component_of, kind_of, presence_of}
use Rattle.octet_account.specs.Flat.{rows_of}
use Rattle.octet_account.specs.Seen.{flat, numbers_of}
use Rattle.octet_account.specs.declared.row.RowLayout.TheVariants as listed
use Rattle.account_checker.proofs.Lists.{drop_is, drop_end, length_mapped}
use Rattle.account_checker.proofs.Members.{at_place, first, asked_of, all_left, at_end, next_component, none_next, members_end, next_element, no_next, elements_end, components_from, component_first, all_from, all_first, elements_from, element_first, present_made, present_parts, lacking_made, lacking_same, element_made, element_parts, fields_count, list_count, options_count, values_count, same_fields, same_list, not_written}
use Rattle.account_checker.specs.declared.order.Order.TheVariants.{Placed}
use Rattle.account_checker.specs.Follows.{sizes}
use Rattle.account_checker.specs.Parts.{rows_in, size_in, size_or, count_or, place_in}
use Rattle.octet_account.specs.Flat.{member_rows}
use Rattle.account_checker.proofs.Outcomes.{handed_on, no_answer}
use Rattle.account_checker.proofs.Rows.{row_eq, row_eq_any}
use Rattle.account_checker.proofs.ByKind.{type_made, type_opened, choice_value, bare_made, bare_opened, bare_choice, core_choice, tag_made, tag_opened, tag_within, choice_within, choice_parts, sequence_within, sequence_parts, list_within, list_parts, core_leaf, sequence_value, list_value, sequence_same, list_same, choice_same}
use Rattle.account_checker.proofs.RowLayout.{to_header, from_header, row_opened_at, no_wrap_row, no_seq, no_seqof, is_account, chosen_value, defaults_of}
use Rattle.asn_base.specs.Types.{a_sequence, a_set, default}
use Rattle.asn_base.specs.declared.value.Value.{Value}
use Rattle.account_checker.proofs.Sets.{IsPlaced, set_within, set_same, set_parts, set_of_within, set_of_same, set_of_parts, set_value, set_of_value, set_defaults, no_set, no_set_of}
use Rattle.asn_base.specs.Typed.{ValueIn, members}
use Rattle.encodings.specs.Account.{header}
use Rattle.account_checker.proofs.+follow.Goals as goal
use Rattle.account_checker.proofs.+follow.Goals.{follow::inside-in_default-via-in-Sequence+in_default, follow::inside-in_default-via-in-SequenceOf+in_default, follow::inside-in_default-via-in-Set+in_default, follow::inside-in_default-via-in-SetOf+in_default, follow::inside-in_default-via-in-Choice+in_default, follow::inside-in_default-via-in_default}

pub follow::follows-returns : goal.follow::follows-returns
follow::follows-returns t c = λ a rest e.
    let found = (c.get-resolved.ensures.is ∙ ap (λ (q : Core). Some (record { tags = c.get-resolved.result.now.tags.items; kind = kind_of q })) (sym c.deref.ensures)) in
    handed_on c.under.result (c.under.ensures a rest e)
    (λ h d. h (type_opened (record { tags = c.get-resolved.result.now.tags.items; kind = kind_of c.deref.result.now }) found c.as_slice-tags.ensures.value d))
    (λ r h. (type_made (record { tags = c.get-resolved.result.now.tags.items; kind = kind_of c.deref.result.now }) found c.as_slice-tags.ensures.value h.0, h.1))

pub follow::bare-chosen-requires : goal.follow::bare-chosen-requires
follow::bare-chosen-requires t c = (search rules, (choice_value (ap kind_of c.in-Choice.is) c.requires.value, c.requires.few))

pub follow::bare-returns-in-Choice : goal.follow::bare-returns-in-Choice
follow::bare-returns-in-Choice t c = λ a rest e.
    handed_on c.chosen.result (c.chosen.ensures a rest e) (λ h d. h (bare_opened (ap kind_of c.in-Choice.is) d))
    (λ r h. (bare_made (ap kind_of c.in-Choice.is) h.0, h.1))

pub follow::bare-returns-in_default : goal.follow::bare-returns-in_default
follow::bare-returns-in_default t c = λ a rest e d. (let b = bare_choice d in let r = core_choice c.args.core.now b.0 b.1 b.2 b.3 in c.in_default.not-Choice r.0 r.1)

pub follow::headed-returns : goal.follow::headed-returns
follow::headed-returns t c = λ a rest e.
    let f = row_eq c.args.described.rows.now c.in_ok-row.row.now c.in_ok-row.rows.now c.in_ok-row.row.now.listed a rest c.in_ok-row.ensures.cases.0 refl e in
    let n = c.in_ok-numbers.ensures a (flat c.in_ok-row.rows.now) rest f in
    handed_on c.inside.result (c.inside.ensures (numbers_of c.in_ok-numbers.numbers) n.0 rest (f ∙ ap (λ q. rows_of q ++ rest) n.1))
    (λ h d. h (tag_within c.header_laws.ensures.only c.in_ok-octets.ensures (tag_opened c.is_constructed-constructed.ensures n.1 d)))
    (λ r h. (tag_made c.is_constructed-constructed.ensures n.1 c.in_ok-octets.ensures h.0, h.1))

pub follow::headed-returns-in_err-octets : goal.follow::headed-returns-in_err-octets
follow::headed-returns-in_err-octets t c = λ a rest e.
    let f = row_eq c.args.described.rows.now c.in_ok-row.row.now c.in_ok-row.rows.now c.in_ok-row.row.now.listed a rest c.in_ok-row.ensures.cases.0 refl e in
    let n = c.in_ok-numbers.ensures a (flat c.in_ok-row.rows.now) rest f in
    no_answer _ c.from_residual-in_err-octets.ensures (λ d.
    let w = tag_opened c.is_constructed-constructed.ensures n.1 d in
    c.in_err-octets.ensures w.x w.is_at)

pub follow::chosen-follows-requires : goal.follow::chosen-follows-requires
follow::chosen-follows-requires t c = (search rules, (subst (λ w. ValueIn c.args.walk.schema.now c.args.walk.levels c.in_ok-chosen_type-in-Alt.field-0.index (abstract w)) (sym c.deref.ensures) (chosen_value _ c.in-Alt.index (c.requires.value c.in-Alt.index (abstract c.in-Alt.inner.value) (ap abstract c.in-Alt.is ∙ c.lemma_abstract_values.ensures.alt c.in-Alt.index c.in-Alt.inner)) c.in_ok-chosen_type-in-Alt.ensures), c.requires.few))

pub follow::inside-structure-requires : goal.follow::inside-structure-requires
follow::inside-structure-requires t c =
    let k = ap kind_of c.in-Sequence-Seq.is-0 ∙ ap (λ q. a_sequence c.in-Sequence-Seq.field-0-0 (map component_of q)) (sym c.as_slice.ensures.value) in
    (search rules, (sequence_value k c.requires.value, (c.requires.few, defaults_of c.args.walk.schema.now k c.requires.sound)))

pub follow::inside-series-requires : goal.follow::inside-series-requires
follow::inside-series-requires t c = (search rules, (list_value (ap kind_of c.in-SequenceOf-SeqOf.is-0) c.requires.value, c.requires.few))

pub follow::inside-held-requires : goal.follow::inside-held-requires
follow::inside-held-requires t c = (search rules, (choice_value (ap kind_of c.in-Choice-Wrap.is-0) c.requires.value, c.requires.few))

pub follow::inside-returns-in-Sequence-Seq : goal.follow::inside-returns-in-Sequence-Seq
follow::inside-returns-in-Sequence-Seq t c = λ z i rest e.
    let k = ap kind_of c.in-Sequence-Seq.is-0 ∙ ap (λ q. a_sequence c.in-Sequence-Seq.field-0-0 (map component_of q)) (sym c.as_slice.ensures.value) in
    let o = row_opened_at c.args.listed.now (listed.Seq c.in-Sequence-Seq.z c.in-Sequence-Seq.count) (header z i) (flat c.args.described.rows.now) rest c.in-Sequence-Seq.is-1 e in
    handed_on c.structure.result ((rw c.in_order-contents.ensures at c.structure.ensures) o.0 rest o.3 o.2)
    (λ h d. h (sequence_same k (from_header o.1 d)))
    (λ r h. (to_header o.1 (sequence_within k h.0), h.1))

pub follow::inside-returns-in-SequenceOf-SeqOf : goal.follow::inside-returns-in-SequenceOf-SeqOf
follow::inside-returns-in-SequenceOf-SeqOf t c = λ z i rest e.
    let k = ap kind_of c.in-SequenceOf-SeqOf.is-0 in
    let o = row_opened_at c.args.listed.now (listed.SeqOf c.in-SequenceOf-SeqOf.z c.in-SequenceOf-SeqOf.count) (header z i) (flat c.args.described.rows.now) rest c.in-SequenceOf-SeqOf.is-1 e in
    handed_on c.series.result ((rw c.in_order-contents-in-SequenceOf-SeqOf.ensures at c.series.ensures) o.0 rest o.3 o.2)
    (λ h d. h (list_same k (from_header o.1 d)))
    (λ r h. (to_header o.1 (list_within k h.0), h.1))

pub follow::inside-returns-in-Choice-Wrap : goal.follow::inside-returns-in-Choice-Wrap
follow::inside-returns-in-Choice-Wrap t c = λ z i rest e.
    let k = ap kind_of c.in-Choice-Wrap.is-0 in
    let o = row_opened_at c.args.listed.now (listed.Wrap c.in-Choice-Wrap.z) (header z i) (flat c.args.described.rows.now) rest c.in-Choice-Wrap.is-1 e in
    handed_on c.held.result (c.held.ensures o.0 rest o.2)
    (λ h d. let p = choice_same k (from_header o.1 d) in h p.0 p.1)
    (λ r h. (to_header o.1 (choice_within k h.0 h.1), h.2))

pub follow::inside-structure-requires-in-Set-Set : goal.follow::inside-structure-requires-in-Set-Set
follow::inside-structure-requires-in-Set-Set t c =
    let k = ap kind_of c.in-Set-Set.is-0 ∙ ap (λ q. a_set c.in-Set-Set.field-0-0 (map component_of q)) (sym c.as_slice-in-Set-Set.ensures.value) in
    (search rules, (set_value k c.requires.value, (c.requires.few, set_defaults c.args.walk.schema.now k c.requires.sound)))

pub follow::inside-series-requires-in-SetOf-SetOf : goal.follow::inside-series-requires-in-SetOf-SetOf
follow::inside-series-requires-in-SetOf-SetOf t c = (search rules, (set_of_value (ap kind_of c.in-SetOf-SetOf.is-0) c.requires.value, c.requires.few))

pub follow::inside-returns-in-Set-Set : goal.follow::inside-returns-in-Set-Set
follow::inside-returns-in-Set-Set t c = λ z i rest e.
    let k = ap kind_of c.in-Set-Set.is-0 ∙ ap (λ q. a_set c.in-Set-Set.field-0-0 (map component_of q)) (sym c.as_slice-in-Set-Set.ensures.value) in
    let o = row_opened_at c.args.listed.now (listed.Set c.in-Set-Set.z c.in-Set-Set.places) (header z i) (flat c.args.described.rows.now) rest c.in-Set-Set.is-1 e in
    let n = o.2 ∙ ap (λ p. p.members) (sym c.deref.ensures) in
    let p : IsPlaced (Placed c.deref.result) c.in-Set-Set.places.value.places.items c.in-Set-Set.places.value.inverse.items = (ap (λ p. p.places.items) c.deref.ensures, ap (λ p. p.inverse.items) c.deref.ensures) in
    handed_on c.structure-in-Set-Set.result ((rw c.placed-contents.ensures at c.structure-in-Set-Set.ensures) o.0 rest o.3 n)
    (λ h d. h (set_same (Placed c.deref.result) p k (from_header o.1 d)))
    (λ r h. (to_header o.1 (set_within (Placed c.deref.result) p k h.0), h.1))

pub follow::inside-returns-in-SetOf-SetOf : goal.follow::inside-returns-in-SetOf-SetOf
follow::inside-returns-in-SetOf-SetOf t c = λ z i rest e.
    let k = ap kind_of c.in-SetOf-SetOf.is-0 in
    let o = row_opened_at c.args.listed.now (listed.SetOf c.in-SetOf-SetOf.z c.in-SetOf-SetOf.places) (header z i) (flat c.args.described.rows.now) rest c.in-SetOf-SetOf.is-1 e in
    let n = o.2 ∙ ap (λ p. p.members) (sym c.deref-in-SetOf-SetOf.ensures) in
    let p : IsPlaced (Placed c.deref-in-SetOf-SetOf.result) c.in-SetOf-SetOf.places.value.places.items c.in-SetOf-SetOf.places.value.inverse.items = (ap (λ p. p.places.items) c.deref-in-SetOf-SetOf.ensures, ap (λ p. p.inverse.items) c.deref-in-SetOf-SetOf.ensures) in
    handed_on c.series-in-SetOf-SetOf.result ((rw c.placed-contents-in-SetOf-SetOf.ensures at c.series-in-SetOf-SetOf.ensures) o.0 rest o.3 n)
    (λ h d. h (set_of_same (Placed c.deref-in-SetOf-SetOf.result) p k (from_header o.1 d)))
    (λ r h. (to_header o.1 (set_of_within (Placed c.deref-in-SetOf-SetOf.result) p k h.0), h.1))

pub components::members-member-requires : goal.components::members-member-requires
components::members-member-requires t c =
    let lt : c.loop-i.i < length c.args.values.now = let e = c.requires.long in omega (arith, c.loop-i-test.true) in (
      search rules,
      (
        component_first (component_of c.index-components-i.result) (drop (c.loop-i.i + 1) (map component_of c.args.components.now)) (option_map abstract c.index-values-i.result) (drop (c.loop-i.i + 1) (map (option_map abstract) c.args.values.now)) (drop_is component_of c.args.components.now c.loop-i.i c.index-components-i.result c.loop-i-test.true c.index-components-i.is) (drop_is (option_map abstract) c.args.values.now c.loop-i.i c.index-values-i.result lt c.index-values-i.is) (components_from (map component_of c.args.components.now) (map (option_map abstract) c.args.values.now) c.loop-i.i c.requires.value),
        (c.requires.few, all_first (HasValue c.args.walk.schema.now) (component_of c.index-components-i.result) (drop (c.loop-i.i + 1) (map component_of c.args.components.now)) (drop_is component_of c.args.components.now c.loop-i.i c.index-components-i.result c.loop-i-test.true c.index-components-i.is) (all_from (HasValue c.args.walk.schema.now) (map component_of c.args.components.now) c.loop-i.i c.requires.defaults)),
      ),
    )

pub components::members-loop-i-init : goal.components::members-loop-i-init
components::members-loop-i-init t c = (omega arith, omega arith, λ rs rest e f. all_left rs e (f ∙ (let q = c.requires.listed in let g : c.args.contents.members ≡ length c.args.components.now - 0 = omega (arith, q) in g)))

pub components::members-loop-i-preserved : goal.components::members-loop-i-preserved
components::members-loop-i-preserved t c = (
  (let b = c.loop-i.invariant.0 in omega (arith, b, c.offset_after-place.ensures.most)),
  (let b = c.loop-i.invariant.1 in omega (arith, b, c.written_to-number.ensures.most)),
  λ rs rest e f. (
      let lt : c.loop-i.i < length c.args.values.now = let e = c.requires.long in omega (arith, c.loop-i-test.true) in
      let some : 0 < length c.args.components.now - c.loop-i.i = omega (arith, c.loop-i-test.true) in
      let h = c.loop-i.invariant.2 rs rest e f in
      let r = c.in_ok-passed.ensures (first h some).member (member_rows (first h some).following ++ rest) (asked_of h some) in
      next_component c.args.walk.schema.now c.args.walk.checks (sizes rs) (place_in c.args.contents.order (sizes rs)) c.start-at.result (drop c.loop-i.i (map component_of c.args.components.now)) (drop c.loop-i.i (map (option_map abstract) c.args.values.now)) c.args.contents.octets.now (component_of c.index-components-i.result) (drop (c.loop-i.i + 1) (map component_of c.args.components.now)) (option_map abstract c.index-values-i.result) (drop (c.loop-i.i + 1) (map (option_map abstract) c.args.values.now)) h some (drop_is component_of c.args.components.now c.loop-i.i c.index-components-i.result c.loop-i-test.true c.index-components-i.is) (drop_is (option_map abstract) c.args.values.now c.loop-i.i c.index-values-i.result lt c.index-values-i.is) (c.start-at.ensures rs rest e f (at_place h)) r.0 r.1 (omega (arith, c.loop-i-test.true)) (c.offset_after-place.ensures.is ∙ ap (λ z. c.loop-i.place + size_or z) r.2) (c.written_to-number.ensures.is ∙ ap (λ z. c.loop-i.number + count_or z) r.2)),
)

pub components::members-returns-in_err-passed : goal.components::members-returns-in_err-passed
components::members-returns-in_err-passed t c = λ rs rest e f. no_answer _ c.from_residual.ensures (λ w.
    let lt : c.loop-i.i < length c.args.values.now = let e = c.requires.long in omega (arith, c.loop-i-test.true) in
    let some : 0 < length c.args.components.now - c.loop-i.i = omega (arith, c.loop-i-test.true) in
    let h = c.loop-i.invariant.2 rs rest e f in
    none_next c.args.walk.schema.now c.args.walk.checks (sizes rs) (place_in c.args.contents.order (sizes rs)) c.start-at.result (drop c.loop-i.i (map component_of c.args.components.now)) (drop c.loop-i.i (map (option_map abstract) c.args.values.now)) c.args.contents.octets.now (component_of c.index-components-i.result) (drop (c.loop-i.i + 1) (map component_of c.args.components.now)) (option_map abstract c.index-values-i.result) (drop (c.loop-i.i + 1) (map (option_map abstract) c.args.values.now)) h some (drop_is component_of c.args.components.now c.loop-i.i c.index-components-i.result c.loop-i-test.true c.index-components-i.is) (drop_is (option_map abstract) c.args.values.now c.loop-i.i c.index-values-i.result lt c.index-values-i.is) (c.start-at.ensures rs rest e f (at_place h)) (λ a. c.in_err-passed.ensures (first h some).member (member_rows (first h some).following ++ rest) (asked_of h some) a) w)

pub components::members-returns : goal.components::members-returns
components::members-returns t c = λ rs rest e f.
    at_end (c.loop-i.invariant.2 rs rest e f) (omega (arith, c.loop-i-test.false)) (members_end c.args.walk.schema.now c.args.walk.checks (place_in c.args.contents.order (sizes rs)) (drop c.loop-i.i (map component_of c.args.components.now)) (drop c.loop-i.i (map (option_map abstract) c.args.values.now)) c.args.contents.octets.now (drop_end component_of c.args.components.now c.loop-i.i c.loop-i-test.false) (drop_end (option_map abstract) c.args.values.now c.loop-i.i (let g = c.requires.long in omega (arith, c.loop-i-test.false))))

pub elements::elements-one_element-requires : goal.elements::elements-one_element-requires
elements::elements-one_element-requires t c = (search rules, (element_first (abstract c.index-values-i.result) (drop (c.loop-i.i + 1) (map abstract c.args.values.now)) (drop_is abstract c.args.values.now c.loop-i.i c.index-values-i.result c.loop-i-test.true c.index-values-i.is) (elements_from (map abstract c.args.values.now) c.loop-i.i c.requires.value), c.requires.few))

pub elements::elements-loop-i-init : goal.elements::elements-loop-i-init
elements::elements-loop-i-init t c = (omega arith, omega arith, λ rs rest e f. all_left rs e (f ∙ (let q = c.requires.listed in let g : c.args.contents.members ≡ length c.args.values.now - 0 = omega (arith, q) in g)))

pub elements::elements-loop-i-preserved : goal.elements::elements-loop-i-preserved
elements::elements-loop-i-preserved t c = (
  (let b = c.loop-i.invariant.0 in omega (arith, b, c.offset_after-place.ensures.most)),
  (let b = c.loop-i.invariant.1 in omega (arith, b, c.written_to-number.ensures.most)),
  λ rs rest e f. (
      let some : 0 < length c.args.values.now - c.loop-i.i = omega (arith, c.loop-i-test.true) in
      let h = c.loop-i.invariant.2 rs rest e f in
      let r = c.in_ok-passed.ensures (first h some).member (member_rows (first h some).following ++ rest) (asked_of h some) in
      next_element c.args.walk.schema.now c.args.walk.checks (sizes rs) (place_in c.args.contents.order (sizes rs)) c.start-at.result c.args.element.index (drop c.loop-i.i (map abstract c.args.values.now)) c.args.contents.octets.now (abstract c.index-values-i.result) (drop (c.loop-i.i + 1) (map abstract c.args.values.now)) h some (drop_is abstract c.args.values.now c.loop-i.i c.index-values-i.result c.loop-i-test.true c.index-values-i.is) (c.start-at.ensures rs rest e f (at_place h)) r.0 r.1 (omega (arith, c.loop-i-test.true)) (c.offset_after-place.ensures.is ∙ ap (λ z. c.loop-i.place + size_or z) r.2) (c.written_to-number.ensures.is ∙ ap (λ z. c.loop-i.number + count_or z) r.2)),
)

pub elements::elements-returns-in_err-passed : goal.elements::elements-returns-in_err-passed
elements::elements-returns-in_err-passed t c = λ rs rest e f. no_answer _ c.from_residual.ensures (λ w.
    let some : 0 < length c.args.values.now - c.loop-i.i = omega (arith, c.loop-i-test.true) in
    let h = c.loop-i.invariant.2 rs rest e f in
    no_next c.args.walk.schema.now c.args.walk.checks (sizes rs) (place_in c.args.contents.order (sizes rs)) c.start-at.result c.args.element.index (drop c.loop-i.i (map abstract c.args.values.now)) c.args.contents.octets.now (abstract c.index-values-i.result) (drop (c.loop-i.i + 1) (map abstract c.args.values.now)) h some (drop_is abstract c.args.values.now c.loop-i.i c.index-values-i.result c.loop-i-test.true c.index-values-i.is) (c.start-at.ensures rs rest e f (at_place h)) (λ a. c.in_err-passed.ensures (first h some).member (member_rows (first h some).following ++ rest) (asked_of h some) a) w)

pub elements::elements-returns : goal.elements::elements-returns
elements::elements-returns t c = λ rs rest e f.
    at_end (c.loop-i.invariant.2 rs rest e f) (omega (arith, c.loop-i-test.false)) (elements_end c.args.walk.schema.now c.args.walk.checks (place_in c.args.contents.order (sizes rs)) c.args.element.index (drop c.loop-i.i (map abstract c.args.values.now)) c.args.contents.octets.now (drop_end abstract c.args.values.now c.loop-i.i c.loop-i-test.false))

pub components::member-returns-else-not-is_to_be_written : goal.components::member-returns-else-not-is_to_be_written
components::member-returns-else-not-is_to_be_written t c = λ m rest e.
    let f = row_eq_any c.args.described.rows.now c.in_ok-row.row.now c.in_ok-row.rows.now (rows_in m ++ rest) c.in_ok-row.ensures.cases.0 e in
    let a = is_account m c.in_ok-row.row.now.listed (flat c.in_ok-row.rows.now) rest f c.in_default-Some.not-Absent-0 c.in_default-Some.not-Default-0 in
    let g = e ∙ ap (λ w. rows_in w ++ rest) a.1 in
    handed_on c.written.result (c.written.ensures a.0 rest g)
    (λ h d. h (present_parts c.args.place (component_of c.args.component.now) c.args.described.octets.now m a.0 (abstract c.in_default-Some.value) a.1 (ap (option_map abstract) c.in_default-Some.is-1) d).1)
    (λ r h. (present_made c.args.place (component_of c.args.component.now) c.args.described.octets.now m a.0 (abstract c.in_default-Some.value) a.1 (ap (option_map abstract) c.in_default-Some.is-1) (c.is_to_be_written.ensures.0 c.if-not-is_to_be_written.false) h.0, h.1, h.2 ∙ sym (ap size_in a.1)))

pub components::member-returns-else-walk : goal.components::member-returns-else-walk
components::member-returns-else-walk t c = λ m rest e.
    let f = row_eq_any c.args.described.rows.now c.in_ok-row.row.now c.in_ok-row.rows.now (rows_in m ++ rest) c.in_ok-row.ensures.cases.0 e in
    let a = is_account m c.in_ok-row.row.now.listed (flat c.in_ok-row.rows.now) rest f c.in_default-None.not-Absent-0 c.in_default-None.not-Default-0 in
    let g = e ∙ ap (λ w. rows_in w ++ rest) a.1 in
    handed_on c.written-in-Default.result (c.written-in-Default.ensures a.0 rest g)
    (λ h d. h (lacking_same c.args.place (component_of c.args.component.now) c.args.described.octets.now m a.0 (abstract c.deref.result.now) a.1 (ap (option_map abstract) c.in_default-None.is-1) (ap presence_of c.in-Default.is ∙ ap (λ (v : Value). default (abstract v)) (sym c.deref.ensures)) d))
    (λ r h. (lacking_made c.args.place (component_of c.args.component.now) c.args.described.octets.now m a.0 (abstract c.deref.result.now) a.1 (ap (option_map abstract) c.in_default-None.is-1) (ap presence_of c.in-Default.is ∙ ap (λ (v : Value). default (abstract v)) (sym c.deref.ensures)) c.if-walk.false h.0, h.1, h.2 ∙ sym (ap size_in a.1)))

pub elements::one_element-returns-in_default : goal.elements::one_element-returns-in_default
elements::one_element-returns-in_default t c = λ m rest e.
    let f = row_eq_any c.args.described.rows.now c.in_ok-row.row.now c.in_ok-row.field-0-1.now (rows_in m ++ rest) c.in_ok-row.ensures.cases.0 e in
    let a = is_account m c.in_ok-row.row.now.listed (flat c.in_ok-row.field-0-1.now) rest f c.in_default.not-Absent c.in_default.not-Default in
    let g = e ∙ ap (λ w. rows_in w ++ rest) a.1 in
    handed_on c.written.result (c.written.ensures a.0 rest g)
    (λ h d. h (element_parts c.args.place c.args.described.octets.now m a.0 a.1 d))
    (λ r h. (element_made c.args.place c.args.described.octets.now m a.0 a.1 h.0, h.1, h.2 ∙ sym (ap size_in a.1)))

pub components::structure-returns-then-contents-components : goal.components::structure-returns-then-contents-components
components::structure-returns-then-contents-components t c = λ rs rest e f d.
    c.if-contents-components.true (sym f ∙ (fields_count d.4).0 ∙ length_mapped component_of c.args.components.now)

pub components::structure-returns-then-values-components : goal.components::structure-returns-then-values-components
components::structure-returns-then-values-components t c = λ rs rest e f d.
    let r = same_fields (sym d.1 ∙ ap abstract c.in-Fields.is ∙ c.lemma_abstract_values.ensures.fields_ c.in-Fields.items) in
    c.if-values-components.true (ap length c.as_slice-values.ensures.value ∙ sym (length_mapped (option_map abstract) c.in-Fields.items.items) ∙ sym (options_count (map (option_map abstract) c.in-Fields.items.items)) ∙ sym (ap members r) ∙ (fields_count d.4).1 ∙ length_mapped component_of c.args.components.now)

pub elements::series-returns-then-contents-values : goal.elements::series-returns-then-contents-values
elements::series-returns-then-contents-values t c = λ rs rest e f d.
    let r = same_list (sym d.1 ∙ ap abstract c.in-List.is ∙ c.lemma_abstract_values.ensures.list_ c.in-List.items) in
    c.if-contents-values.true (sym f ∙ list_count d.4 ∙ ap members r ∙ values_count (map abstract c.in-List.items.items) ∙ length_mapped abstract c.in-List.items.items ∙ sym (ap length c.as_slice-values.ensures.value))

pub follow::written-returns-in_err-following : goal.follow::written-returns-in_err-following
follow::written-returns-in_err-following t c = λ a rest e.
    let f = row_eq_any c.args.described.rows.now c.in_ok-row.row.now c.in_ok-row.field-0-1.now (rows_of a ++ rest) c.in_ok-row.ensures.cases.0 e in
    no_answer _ c.from_residual-in_err-following.ensures (λ d.
    not_written c.args.walk.schema.now c.args.walk.checks c.args.place c.in_ok-size.size c.args.id.index (abstract c.args.value.now) c.args.described.octets.now c.in_ok-octets.octets.now a (c.in_ok-size.ensures.listed a (flat c.in_ok-row.field-0-1.now) rest f) c.in_ok-octets.ensures (c.in_err-following.ensures a rest e) d)

pub follow::inside-returns-in_default : goal.follow::inside-returns-in_default
follow::inside-returns-in_default t c = λ z i rest e.
    handed_on c.after_leaf.result (c.after_leaf.ensures c.args.walk.schema.now z i rest e)
    (λ h d. elim c.in_default.branch [
      | follow::inside-in_default-via-in-Sequence+in_default w ↦
          let p = sequence_parts (ap kind_of w.in_default.is-0) d in
          no_seq c.args.listed.now z i p.0 (flat c.args.described.rows.now) rest e w.in_default.not-Seq-1 p.1
      | follow::inside-in_default-via-in-SequenceOf+in_default w ↦
          let p = list_parts (ap kind_of w.in_default.is-0) d in
          no_seqof c.args.listed.now z i p.0 (flat c.args.described.rows.now) rest e w.in_default.not-SeqOf-1 p.1
      | follow::inside-in_default-via-in-Set+in_default w ↦
          let p = set_parts (ap kind_of w.in_default.is-0) d in
          no_set c.args.listed.now z i p.0 p.1 p.2 (flat c.args.described.rows.now) rest e w.in_default.not-Set-1 p.3
      | follow::inside-in_default-via-in-SetOf+in_default w ↦
          let p = set_of_parts (ap kind_of w.in_default.is-0) d in
          no_set_of c.args.listed.now z i p.0 p.1 p.2 (flat c.args.described.rows.now) rest e w.in_default.not-SetOf-1 p.3
      | follow::inside-in_default-via-in-Choice+in_default w ↦
          let p = choice_parts (ap kind_of w.in_default.is-0) d in
          no_wrap_row c.args.listed.now z i p.0 (flat c.args.described.rows.now) rest e w.in_default.not-Wrap-1 p.1
      | follow::inside-in_default-via-in_default w ↦
          h (core_leaf c.args.core.now w.in_default.not-Sequence-0 w.in_default.not-Set-0 w.in_default.not-SequenceOf-0 w.in_default.not-SetOf-0 w.in_default.not-Choice-0) d
    ])
    (λ r h. h)
