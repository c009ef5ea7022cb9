use Rattle.std.proofs.Common.{◌≡◌, ◌+◌, ◌-◌, ◌*◌, ◌<◌, ◌≤◌, ◌++◌, ◌∷◌, [], true, false, length, map, drop, arith, refl, sym, ap, subst, ◌∙◌, append_assoc}
use Rattle.asn_base.specs.Abstract.{abstract}
use Rattle.asn_base.specs.Seen.{constraint_of}
use Rattle.asn_base.specs.Typed.{ValueIn, IsAllowedSize}
use Rattle.packed_counts.specs.Counts.{Adds}
use Rattle.packed_encodings.specs.Computed.{bits_of, open_bits, sorted, sized_bits}
use Rattle.packed_encodings.specs.Lengths.{Counted, all_bits}
use Rattle.packed_code.specs.declared.step.PackedStep.TheVariants as steps
use Rattle.packed_code.specs.Meaning.{call_bits, field_bits, group_bits, map_bits, members_of, steps_bits}
use Rattle.packed_writer.specs.proving.Values.{CallFits, IsCalled, FieldOf, FieldsFit, StepsFit, all_items, fields_in, first_bits}
use Rattle.std.specs.List.Sorted.{IsPermutation}
use Rattle.std.specs.Prelude.{OnOk, Some}
use Rattle.bits.specs.Words.{low_bits}
use Rattle.packed_encodings.specs.proving.Lists.{all_take}
use Rattle.packed_writer.specs.proving.Fields.{next_is}
use Rattle.packed_writer.proofs.Components.{split_at, step_there}
use Rattle.packed_leaves.specs.proving.Counting.{at_once, counted}
use Rattle.packed_writer.proofs.Counting.{item_step, values_part, values_at_once, items_long}
use Rattle.packed_writer.proofs.Fitting.{fields_of_steps, fit_drop}
use Rattle.packed_writer.proofs.Inside.{collect_step, item_found, part_bits, are_in, some_levels, sequence_of, set_of, has_least, in_bounds, in_sequence, in_set, sequence_listed, set_listed, all_encodings, is_called, is_choice, is_number}
use Rattle.packed_writer.proofs.Steps.{added_is, group_is, steps_step, front_in, back_in, permuted_long, encoding}
use Rattle.packed_writer.proofs.run.+writes.Goals.{push_steps-in-Field+in_ok-push_field, push_steps-in_default+in_ok-push_step}
use Rattle.packed_writer.proofs.run.+writes.Goals as goal

pub collect-loop-i-preserved : goal.collect-loop-i-preserved
collect-loop-i-preserved t c =
    let s = c.args.code.now in
    let u = c.args.elements.id.index in
    let ws = map abstract c.args.elements.values.now in
    let v = c.element.result.value.now in
    collect_step (all_items s u ws) c.loop-i.i (bits_of s (abstract v) u) c.loop-i.items.items c.collect_one.new.items.items (c.args.items.now.items ++ all_items s u ws)
    (item_found s u ws c.loop-i.i (abstract v) c.element.ensures.value) c.loop-i.invariant
    (c.in_ok-collect_one.ensures ∙ ap (λ q. c.loop-i.items.items ++ bits_of s (abstract v) q.index ∷ []) c.element.ensures.id)

pub push_added-returns-in_ok-push_opened-in-Some : goal.push_added-returns-in_ok-push_opened-in-Some
push_added-returns-in_ok-push_opened-in-Some t c =
    let s = c.args.code.now in
    c.in_ok-push_opened-in-Some.ensures
    ∙ ap (λ q. c.args.out.now ++ open_bits q) (part_bits s c.part.result c.in-Some.value.now c.args.field.ty c.part.ensures.value c.part.ensures.id)
    ∙ ap (λ q. c.args.out.now ++ q) (sym (added_is c.in-Some.ensures))

pub push_all-loop-i-preserved : goal.push_all-loop-i-preserved
push_all-loop-i-preserved t c =
    let s = c.args.code.now in
    let u = c.args.elements.id.index in
    let ws = map abstract c.args.elements.values.now in
    let v = c.element.result.value.now in
    item_step (all_items s u ws) c.loop-i.i (bits_of s (abstract v) u) c.loop-i.out c.push_value.new.out (c.args.out.now ++ all_bits (all_items s u ws))
    (item_found s u ws c.loop-i.i (abstract v) c.element.ensures.value) c.loop-i.invariant
    (c.in_ok-push_value.ensures ∙ ap (λ q. c.loop-i.out ++ bits_of s (abstract v) q.index) c.element.ensures.id)

pub push_counted-push_all-requires : goal.push_counted-push_all-requires
push_counted-push_all-requires t c =
    let e = c.among.ensures.levels in
    let lt : 20 * c.among.result.levels + 11 < t = let d = c.decreases in omega (arith, e, d) in (
      lt,
      are_in c.args.code.now c.among.result c.args.elements.levels c.args.elements.id.index c.split_at.result.0.now e c.requires.few (ap (λ q. q.index) c.among.ensures.id) c.among.ensures.values
          (front_in (ValueIn c.args.code.now c.args.elements.levels c.args.elements.id.index) c.in_ok-next.next c.loop-rest.rest.now c.split_at.result.0.now c.split_at.ensures.front c.loop-rest.invariant.0),
    )

pub push_counted-loop-rest-preserved : goal.push_counted-loop-rest-preserved
push_counted-loop-rest-preserved t c =
    let s = c.args.code.now in
    let u = c.args.elements.id.index in (
      back_in (ValueIn s c.args.elements.levels u) c.in_ok-next.next c.loop-rest.rest.now c.split_at.result.1.now c.split_at.ensures.back c.loop-rest.invariant.0,
      λ x a. c.loop-rest.invariant.1 x
          (values_part c.count_laws.ensures.part s u c.loop-rest.rest.now c.split_at.result.0.now c.split_at.result.1.now (length c.loop-rest.rest.now) c.in_ok-next.next c.loop-rest.out c.push_count.new.out c.push_all.new.out x refl c.loop-rest-test.true
          c.in_ok-next.ensures.next c.split_at.ensures.front c.split_at.ensures.back c.in_ok-next.ensures.bits
          (c.in_ok-push_all.ensures ∙ ap (λ q. c.push_count.new.out ++ all_bits (all_items s q.index (map abstract c.among.result.values.now))) c.among.ensures.id ∙ ap (λ q. c.push_count.new.out ++ all_bits (all_items s u (map abstract q))) c.among.ensures.values)
          a),
    )

pub push_counted-push_all-requires-2 : goal.push_counted-push_all-requires-2
push_counted-push_all-requires-2 t c =
    let e = c.among-2.ensures.levels in
    let lt : 20 * c.among-2.result.levels + 11 < t = let d = c.decreases in omega (arith, e, d) in
    (lt, are_in c.args.code.now c.among-2.result c.args.elements.levels c.args.elements.id.index c.loop-rest.rest.now e c.requires.few (ap (λ q. q.index) c.among-2.ensures.id) c.among-2.ensures.values c.loop-rest.invariant.0)

pub push_counted-returns : goal.push_counted-returns
push_counted-returns t c =
    let s = c.args.code.now in
    let u = c.args.elements.id.index in
    c.loop-rest.invariant.1 c.push_all-2.new.out
    (values_at_once c.count_laws.ensures.at_once s u c.loop-rest.rest.now (length c.loop-rest.rest.now) c.loop-rest.out c.push_count-2.new.out c.push_all-2.new.out refl c.loop-rest-test.false c.in_ok-push_count.ensures.bits
    (c.in_ok-push_all-2.ensures ∙ ap (λ q. c.push_count-2.new.out ++ all_bits (all_items s q.index (map abstract c.among-2.result.values.now))) c.among-2.ensures.id ∙ ap (λ q. c.push_count-2.new.out ++ all_bits (all_items s u (map abstract q))) c.among-2.ensures.values))

pub push_each-elements_of-elements-requires : goal.push_each-elements_of-elements-requires
push_each-elements_of-elements-requires t c =
    let r = sequence_of c.args.code.now c.args.typed.levels c.args.typed.id.index c.args.element.index c.requires.list.0 (abstract c.args.typed.value.now) c.requires.value.is c.requires.list.1 in
    (r.row, r.is)

pub push_each-push_size-requires-clause-least : goal.push_each-push_size-requires-clause-least
push_each-push_size-requires-clause-least t c = has_least (constraint_of c.size_of-size.result.now) c.size_of-size.ensures.bounds

pub push_each-push_size-requires-clause-allowed : goal.push_each-push_size-requires-clause-allowed
push_each-push_size-requires-clause-allowed t c =
    let vs = c.elements_of-elements.result.values.now in
    let m = in_sequence c.args.code.now c.schema.result.now c.args.typed.levels c.args.typed.id.index c.args.element.index (constraint_of c.size_of-size.result.now) c.requires.list.0 (abstract c.args.typed.value.now) vs c.schema.ensures c.size_of-size.ensures c.requires.list.1 c.requires.value.is c.elements_of-elements.ensures.values in
    in_bounds (constraint_of c.size_of-size.result.now) (length vs) c.size_of-size.ensures.bounds m.allowed

pub push_each-push_all-requires : goal.push_each-push_all-requires
push_each-push_all-requires t c =
    let n = c.args.typed.levels in
    let vs = c.elements_of-elements.result.values.now in
    let m = in_sequence c.args.code.now c.schema.result.now n c.args.typed.id.index c.args.element.index (constraint_of c.size_of-size.result.now) c.requires.list.0 (abstract c.args.typed.value.now) vs c.schema.ensures c.size_of-size.ensures c.requires.list.1 c.requires.value.is c.elements_of-elements.ensures.values in
    let e = c.elements_of-elements.ensures.levels in
    let one = some_levels c.args.code.now n c.args.typed.id.index (abstract c.args.typed.value.now) c.requires.value.is in
    let lt : 20 * c.elements_of-elements.result.levels + 11 < t = let d = c.decreases in omega (arith, e, one, d) in
    let few : n - 1 ≤ 64 = let h = c.requires.value.few in omega (arith, h) in
    (lt, are_in c.args.code.now c.elements_of-elements.result (n - 1) c.args.element.index vs e few (ap (λ q. q.index) c.elements_of-elements.ensures.id) refl m.all)

pub push_each-push_counted-requires : goal.push_each-push_counted-requires
push_each-push_counted-requires t c =
    let n = c.args.typed.levels in
    let vs = c.elements_of-elements.result.values.now in
    let m = in_sequence c.args.code.now c.schema.result.now n c.args.typed.id.index c.args.element.index (constraint_of c.size_of-size.result.now) c.requires.list.0 (abstract c.args.typed.value.now) vs c.schema.ensures c.size_of-size.ensures c.requires.list.1 c.requires.value.is c.elements_of-elements.ensures.values in
    let e = c.elements_of-elements.ensures.levels in
    let one = some_levels c.args.code.now n c.args.typed.id.index (abstract c.args.typed.value.now) c.requires.value.is in
    let lt : 20 * c.elements_of-elements.result.levels + 12 < t = let d = c.decreases in omega (arith, e, one, d) in
    let few : n - 1 ≤ 64 = let h = c.requires.value.few in omega (arith, h) in
    (lt, are_in c.args.code.now c.elements_of-elements.result (n - 1) c.args.element.index vs e few (ap (λ q. q.index) c.elements_of-elements.ensures.id) refl m.all)

pub push_each-returns-in_ok-push_all : goal.push_each-returns-in_ok-push_all
push_each-returns-in_ok-push_all t c =
    let s = c.args.code.now in
    let u = c.args.element.index in
    let k = constraint_of c.size_of-size.result.now in
    let vs = c.elements_of-elements.result.values.now in
    at_once c.function_laws.ensures.sized k.visible (all_items s u (map abstract vs)) (length vs) c.in_ok-once.once c.args.out.now c.push_size.new.out c.push_all.new.out
    (sym (items_long s u vs)) c.if-once.true c.in_ok-once.ensures
    (c.in_ok-push_all.ensures ∙ ap (λ q. c.push_size.new.out ++ all_bits (all_items s q.index (map abstract vs))) c.elements_of-elements.ensures.id)
    ∙ ap (λ q. c.args.out.now ++ q) (sym (sequence_listed s c.schema.result.now c.args.typed.id.index u k c.requires.list.0 (abstract c.args.typed.value.now) vs c.schema.ensures c.size_of-size.ensures c.requires.list.1 c.elements_of-elements.ensures.values))

pub push_each-returns-in_ok-push_counted : goal.push_each-returns-in_ok-push_counted
push_each-returns-in_ok-push_counted t c =
    let s = c.args.code.now in
    let u = c.args.element.index in
    let k = constraint_of c.size_of-size.result.now in
    let vs = c.elements_of-elements.result.values.now in
    counted c.function_laws.ensures.sized k.visible (all_items s u (map abstract vs)) (length vs) c.in_ok-once.once c.args.out.now c.push_size.new.out c.push_counted.new.out
    (sym (items_long s u vs)) c.if-once.false c.in_ok-once.ensures
    (subst (λ q. Adds (Counted (all_items s q.index (map abstract vs))) c.push_size.new.out c.push_counted.new.out) c.elements_of-elements.ensures.id c.in_ok-push_counted.ensures)
    ∙ ap (λ q. c.args.out.now ++ q) (sym (sequence_listed s c.schema.result.now c.args.typed.id.index u k c.requires.list.0 (abstract c.args.typed.value.now) vs c.schema.ensures c.size_of-size.ensures c.requires.list.1 c.elements_of-elements.ensures.values))

pub push_field-returns-in_ok-push_value-in-Some : goal.push_field-returns-in_ok-push_value-in-Some
push_field-returns-in_ok-push_value-in-Some t c =
    let s = c.args.code.now in
    c.in_ok-push_value-in-Some.ensures
    ∙ ap (λ q. c.args.out.now ++ q) (part_bits s c.part.result c.in-Some.value.now c.args.field.ty c.part.ensures.value c.part.ensures.id ∙ sym c.in-Some.ensures.bits)

pub push_group-returns : goal.push_group-returns
push_group-returns t c =
    let ms = members_of c.args.code.now c.args.typed.id.index (abstract c.args.typed.value.now) in
    let fs = fields_in c.args.steps.now in
    c.in_ok-push_open.ensures
    ∙ ap (λ q. c.args.out.now ++ open_bits q) (c.in_ok-push_fields.ensures ∙ ap (λ q. q ++ field_bits ms fs) (c.in_ok-push_map.ensures ∙ ap (λ q. q ++ map_bits ms fs) c.new-inner.ensures))
    ∙ ap (λ q. c.args.out.now ++ q) (sym (group_is ms fs (sym c.any_written.ensures ∙ c.if-not-any_written.false)))

pub push_opened-returns : goal.push_opened-returns
push_opened-returns t c =
    c.in_ok-push_open.ensures ∙ ap (λ q. c.args.out.now ++ open_bits q) (c.in_ok-push_value.ensures ∙ ap (λ q. q ++ bits_of c.args.code.now (abstract c.args.typed.value.now) c.args.typed.id.index) c.new-inner.ensures)

pub push_pick-chosen-index-requires : goal.push_pick-chosen-index-requires
push_pick-chosen-index-requires t c = is_choice c.args.code.now c.args.typed.levels c.args.typed.id.index (abstract c.args.typed.value.now) c.args.calls.now c.requires.value.is c.requires.pick

pub push_sorted-elements_of-elements-requires : goal.push_sorted-elements_of-elements-requires
push_sorted-elements_of-elements-requires t c =
    let r = set_of c.args.code.now c.args.typed.levels c.args.typed.id.index c.args.element.index c.requires.list.0 (abstract c.args.typed.value.now) c.requires.value.is c.requires.list.1 in
    (r.row, r.is)

pub push_sorted-collect-requires : goal.push_sorted-collect-requires
push_sorted-collect-requires t c =
    let n = c.args.typed.levels in
    let vs = c.elements_of-elements.result.values.now in
    let m = in_set c.args.code.now c.schema.result.now n c.args.typed.id.index c.args.element.index (constraint_of c.size_of-size.result.now) c.requires.list.0 (abstract c.args.typed.value.now) vs c.schema.ensures c.size_of-size.ensures c.requires.list.1 c.requires.value.is c.elements_of-elements.ensures.values in
    let e = c.elements_of-elements.ensures.levels in
    let one = some_levels c.args.code.now n c.args.typed.id.index (abstract c.args.typed.value.now) c.requires.value.is in
    let lt : 20 * c.elements_of-elements.result.levels + 11 < t = let d = c.decreases in omega (arith, e, one, d) in
    let few : n - 1 ≤ 64 = let h = c.requires.value.few in omega (arith, h) in
    (lt, are_in c.args.code.now c.elements_of-elements.result (n - 1) c.args.element.index vs e few (ap (λ q. q.index) c.elements_of-elements.ensures.id) refl m.all)

pub push_sorted-push_items-requires-clause-least : goal.push_sorted-push_items-requires-clause-least
push_sorted-push_items-requires-clause-least t c = has_least (constraint_of c.size_of-size.result.now) c.size_of-size.ensures.bounds

pub push_sorted-push_items-requires-clause-allowed : goal.push_sorted-push_items-requires-clause-allowed
push_sorted-push_items-requires-clause-allowed t c =
    let s = c.args.code.now in
    let n = c.args.typed.levels in
    let u = c.args.element.index in
    let k = constraint_of c.size_of-size.result.now in
    let vs = c.elements_of-elements.result.values.now in
    let m = in_set s c.schema.result.now n c.args.typed.id.index u k c.requires.list.0 (abstract c.args.typed.value.now) vs c.schema.ensures c.size_of-size.ensures c.requires.list.1 c.requires.value.is c.elements_of-elements.ensures.values in
    let ex : c.collect.new.items.items ≡ all_items s u (map abstract vs) = c.in_ok-collect.ensures ∙ ap (λ q. q ++ all_items s c.elements_of-elements.result.id.index (map abstract vs)) c.new-items.ensures.items ∙ ap (λ q. all_items s q.index (map abstract vs)) c.elements_of-elements.ensures.id in
    let len : length c.as_slice.result.now ≡ length vs = ap length c.as_slice.ensures.value ∙ permuted_long c.collect.new.items.items c.sort.new.items.items c.in_ok-sort.ensures.same ∙ ap length ex ∙ sym (items_long s u vs) in
    in_bounds k (length c.as_slice.result.now) c.size_of-size.ensures.bounds (subst (IsAllowedSize k) (sym len) m.allowed)

pub push_sorted-returns : goal.push_sorted-returns
push_sorted-returns t c =
    let s = c.args.code.now in
    let n = c.args.typed.levels in
    let u = c.args.element.index in
    let k = constraint_of c.size_of-size.result.now in
    let vs = c.elements_of-elements.result.values.now in
    let m = in_set s c.schema.result.now n c.args.typed.id.index u k c.requires.list.0 (abstract c.args.typed.value.now) vs c.schema.ensures c.size_of-size.ensures c.requires.list.1 c.requires.value.is c.elements_of-elements.ensures.values in
    let xs = all_items s u (map abstract vs) in
    let ys = c.sort.new.items.items in
    let ex : c.collect.new.items.items ≡ xs = c.in_ok-collect.ensures ∙ ap (λ q. q ++ all_items s c.elements_of-elements.result.id.index (map abstract vs)) c.new-items.ensures.items ∙ ap (λ q. all_items s q.index (map abstract vs)) c.elements_of-elements.ensures.id in
    let few : n - 1 ≤ 64 = let h = c.requires.value.few in omega (arith, h) in
    let all = all_encodings s u (n - 1) (map abstract vs) (λ w a. encoding s u w (bits_of s w u) (c.computing_laws.ensures.packed s u w c.lemma_invariant.ensures (c.lemma_levels_grow.ensures s u (n - 1) 64 w few a))) m.all in
    let order : sorted xs ≡ ys = c.function_laws.ensures.sorted s u xs ys c.lemma_invariant.ensures all (subst (λ q. IsPermutation q ys) ex c.in_ok-sort.ensures.same) c.in_ok-sort.ensures.order in
    c.in_ok-push_items.ensures
    ∙ ap (λ q. c.args.out.now ++ sized_bits k.visible q) (c.as_slice.ensures.value ∙ sym order)
    ∙ ap (λ q. c.args.out.now ++ q) (sym (set_listed s c.schema.result.now c.args.typed.id.index u k c.requires.list.0 (abstract c.args.typed.value.now) vs c.schema.ensures c.size_of-size.ensures c.requires.list.1 c.elements_of-elements.ensures.values))

pub push_step-push_offset-requires : goal.push_step-push_offset-requires
push_step-push_offset-requires t c =
    let s = c.args.code.now in
    let u = c.args.typed.id.index in
    let f = subst (StepsFit s u) c.in-Some.ensures c.requires.fit in
    let g = subst (λ q. CallFits s u q c.in-Some.rest.now) c.in-Number.is f.1 in
    is_number s c.args.typed.levels u (abstract c.args.typed.value.now) g.0 c.requires.value.is g.1

pub push_step-push_map-requires-clause-fields : goal.push_step-push_map-requires-clause-fields
push_step-push_map-requires-clause-fields t c =
    let s = c.args.code.now in
    let u = c.args.typed.id.index in
    let f = subst (StepsFit s u) c.in-Some.ensures c.requires.fit in
    subst (FieldsFit s u) (sym c.next.ensures) (all_take (FieldOf s u) c.in-Map.count c.in-Some.rest.now (fields_of_steps s u c.in-Some.rest.now f.2))

pub push_step-push_bitmap-requires-clause-fields : goal.push_step-push_bitmap-requires-clause-fields
push_step-push_bitmap-requires-clause-fields t c =
    let s = c.args.code.now in
    let u = c.args.typed.id.index in
    let f = subst (StepsFit s u) c.in-Some.ensures c.requires.fit in
    fields_of_steps s u c.in-Some.rest.now f.2

pub push_step-push_group-requires : goal.push_step-push_group-requires
push_step-push_group-requires t c =
    let s = c.args.code.now in
    let u = c.args.typed.id.index in
    let f = subst (StepsFit s u) c.in-Some.ensures c.requires.fit in
    let lt : 20 * c.args.typed.levels + 6 < t = let d = c.decreases in omega (arith, d) in
    (lt, (c.requires.value, subst (FieldsFit s u) (sym c.next-in-Group.ensures) (all_take (FieldOf s u) c.in-Group.count c.in-Some.rest.now (fields_of_steps s u c.in-Some.rest.now f.2))))

pub push_step-returns-in-Map : goal.push_step-returns-in-Map
push_step-returns-in-Map t c =
    let s = c.args.code.now in
    let u = c.args.typed.id.index in
    let v = abstract c.args.typed.value.now in
    let ms = members_of s u v in
    let e : map_bits ms (fields_in c.next.result.now) ≡ first_bits s u v c.args.steps.now
    = ap (map_bits ms) (ap fields_in c.next.ensures ∙ sym (next_is c.in-Map.count c.in-Some.rest.now)) ∙ sym (ap (first_bits s u v) (c.in-Some.ensures ∙ ap (λ q. q ∷ c.in-Some.rest.now) c.in-Map.is)) in
    subst (λ q. OnOk c.push_map.result (c.push_map.new.out ≡ c.args.out.now ++ q)) e c.push_map.ensures

pub push_step-returns-in-Group : goal.push_step-returns-in-Group
push_step-returns-in-Group t c =
    let s = c.args.code.now in
    let u = c.args.typed.id.index in
    let v = abstract c.args.typed.value.now in
    let ms = members_of s u v in
    let e : group_bits ms (fields_in c.next-in-Group.result.now) ≡ first_bits s u v c.args.steps.now
    = ap (group_bits ms) (ap fields_in c.next-in-Group.ensures ∙ sym (next_is c.in-Group.count c.in-Some.rest.now)) ∙ sym (ap (first_bits s u v) (c.in-Some.ensures ∙ ap (λ q. q ∷ c.in-Some.rest.now) c.in-Group.is)) in
    subst (λ q. OnOk c.push_group.result (c.push_group.new.out ≡ c.args.out.now ++ q)) e c.push_group.ensures

pub push_steps-push_step-requires : goal.push_steps-push_step-requires
push_steps-push_step-requires t c =
    let s = c.args.code.now in
    let u = c.args.typed.id.index in
    let lt : 20 * c.args.typed.levels + 7 < t = let d = c.decreases in omega (arith, d) in
    (lt, (c.requires.value, subst (StepsFit s u) (sym c.after.ensures) (fit_drop s u c.loop-i.i c.args.steps.now c.requires.fit)))

pub push_steps-loop-i-preserved : goal.push_steps-loop-i-preserved
push_steps-loop-i-preserved t c =
    let s = c.args.code.now in
    let t' = c.args.typed.id.index in
    let v = abstract c.args.typed.value.now in
    let ss = c.args.steps.now in
    let r = split_at ss c.loop-i.i c.loop-i-test.true in
    let step = steps_step s t' v ss c.loop-i.i r.0 c.loop-i.out c.match-steps-i.out (c.args.out.now ++ steps_bits s t' v ss) r.1 c.loop-i.invariant in
    elim c.match-steps-i.branch [
      | push_steps-in-Field+in_ok-push_field w ↦ step (w.out-is ∙ w.in_ok-push_field.ensures ∙ ap (λ q. c.loop-i.out ++ first_bits s t' v q) (sym (step_there ss c.loop-i.i steps.Bit c.loop-i-test.true ∙ ap (λ q. q ∷ drop (c.loop-i.i + 1) ss) w.in-Field.is)))
      | push_steps-in_default+in_ok-push_step w ↦ step (w.out-is ∙ w.in_ok-push_step.ensures ∙ ap (λ q. c.loop-i.out ++ first_bits s t' v q) w.after.ensures)
    ]

pub push_steps-push_field-requires : goal.push_steps-push_field-requires
push_steps-push_field-requires t c =
    let s = c.args.code.now in
    let u = c.args.typed.id.index in
    let lt : 20 * c.args.typed.levels + 3 < t = let d = c.decreases in omega (arith, d) in
    let f = subst (StepsFit s u) (step_there c.args.steps.now c.loop-i.i steps.Bit c.loop-i-test.true) (fit_drop s u c.loop-i.i c.args.steps.now c.requires.fit) in
    (lt, (c.requires.value, subst (FieldOf s u) c.in-Field.is f.0))

pub push_value-push_offset-requires : goal.push_value-push_offset-requires
push_value-push_offset-requires t c =
    let s = c.args.code.now in
    let u = c.args.typed.id.index in
    let f = subst (StepsFit s u) (sym c.steps-steps.ensures ∙ c.in-Some-Number.ensures) (c.lemma_routines_fit.ensures s u) in
    let g = subst (λ q. CallFits s u q []) c.in-Some-Number.field-0-is f.1 in
    is_number s c.args.typed.levels u (abstract c.args.typed.value.now) g.0 c.requires.is g.1

pub push_call-returns-in_ok-push_opened-in-More : goal.push_call-returns-in_ok-push_opened-in-More
push_call-returns-in_ok-push_opened-in-More t c =
    let s = c.args.code.now in
    let w = abstract c.args.typed.value.now in
    let i = c.in-More.place in
    c.in_ok-push_opened-in-More.ensures
    ∙ ap (λ q. c.push_added_place.new.out ++ open_bits q) (part_bits s c.retyped-in-More.result c.args.typed.value.now c.in-More.ty c.retyped-in-More.ensures.value c.retyped-in-More.ensures.id)
    ∙ ap (λ q. q ++ open_bits (bits_of s w c.in-More.ty.index)) c.in_ok-push_added_place-in-More.ensures
    ∙ append_assoc c.args.out.now (true ∷ (false ∷ low_bits 6 i)) (open_bits (bits_of s w c.in-More.ty.index))
    ∙ ap (λ q. c.args.out.now ++ call_bits s w (Some q)) (sym c.in-More.is)

pub push_pick-push_call-requires : goal.push_pick-push_call-requires
push_pick-push_call-requires t c =
    let s = c.args.code.now in
    let n = c.args.typed.levels in
    let v = abstract c.args.typed.value.now in
    let w = abstract c.chosen-index.result.1.now in
    let e = c.part.ensures.levels in
    let one = some_levels s n c.args.typed.id.index v c.requires.value.is in
    let lt : 20 * c.part.result.levels + 15 < t = let d = c.decreases in omega (arith, e, one, d) in
    let few : c.part.result.levels ≤ 64 = let h = c.requires.value.few in omega (arith, e, h) in
    let called : IsCalled s (n - 1) w (Some c.in-Some.call) = subst (IsCalled s (n - 1) w) (sym c.call_at.ensures ∙ c.in-Some.is) (is_called s n c.args.typed.id.index v w c.chosen-index.result.0 c.args.calls.now c.requires.value.is c.requires.pick c.chosen-index.ensures) in
    (lt, (few, subst (λ q. IsCalled s q (abstract c.part.result.value.now) (Some c.in-Some.call)) (sym e) (subst (λ q. IsCalled s (n - 1) (abstract q) (Some c.in-Some.call)) (sym c.part.ensures.value) called)))
