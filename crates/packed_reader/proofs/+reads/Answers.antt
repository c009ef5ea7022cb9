use Rattle.std.proofs.Common.{rules, ◌≡◌, ◌+◌, ◌≤◌, ◌<◌, length, suc, true, ℕ, ◌-◌, ◌*◌, Bool, false, List, [], ◌∷◌, slice_index_or}
use Rattle.asn_base.specs.Abstract.{abstract}
use Rattle.asn_base.specs.Schemas.{components}
use Rattle.asn_base.specs.Seen.{constraint_of}
use Rattle.bits.specs.Left.{bits_left}
use Rattle.packed_code.specs.Routines.{routine_at}
use Rattle.packed_encodings.specs.Computed.{kind_at}
use Rattle.packed_reader.specs.Code.{chosen_of}
use Rattle.packed_reader.specs.Readings.{next as onward}
use Rattle.packed_reader.specs.Readings.{plain}
use Rattle.packed_reader.specs.Steps.{call_from}
use Rattle.packed_reader.specs.Structures.{open_from}
use Rattle.packed_reader.specs.proving.Code.{AreSent, IsLess, IsPart, IsStop, gathered, row_of_values}
use Rattle.packed_reader.specs.proving.Running.{run_added, run_additions, run_chosen, run_elements, run_first, run_group, run_group_inside, run_list, run_member, run_members, run_parts, run_present, run_rest, run_steps, run_structure, run_value}
use Rattle.packed_readings.specs.Counts.{size_fault}
use Rattle.packed_writer.specs.proving.Values.{FieldsFit, IsList, fields_in}
use Rattle.std.proofs.Common.{arith, map, refl, sym, ap, subst, ◌∙◌}
use Rattle.std.specs.Prelude.{not, ◌||◌}
use Rattle.std.proofs.lemmas.List.{map_push, length-map}
use Rattle.packed_readings.specs.Outcome.{found}
use Rattle.packed_readings.specs.declared.count.Count.TheVariants.{Last as last, Part as part}
use Rattle.packed_reader.specs.Lists.{at_most}
use Rattle.packed_reader.specs.Readings.{read, taken}
use Rattle.packed_reader.specs.Steps.{value_by}
use Rattle.packed_reader.specs.proving.Code.{IsFewParts}
use Rattle.packed_reader.proofs.Flow.{went_same}
use Rattle.packed_reader.proofs.Listing.{memory_stops, nothing_returned, returned_as, refused_as, fewer_left, went_on, went_before, all_before, room_before, room_after, size_is, each_read, each_stops, list_at_once, list_counted, list_stops, element_stops, element_refused, element_read, elements_none, elements_more, elements_stop, elements_all, stated_at, stop_stated, less_last, less_more, not_in_order, in_order_by, in_any_order, own_are}
use Rattle.packed_reader.proofs.Parts.{IsSoFar, part_last, part_more, stop_last, stop_more, so_far_first, so_far_last, so_far_more, so_far_stops, so_far_all}
use Rattle.packed_reader.proofs.Plans.{reading_shorter}
use Rattle.packed_reader.proofs.+reads.Goals.{elements::read_element-else-sorted-via-then-sorted+else-not-at_most, elements::read_element-else-sorted-via-else-sorted}
use Rattle.std.proofs.Common.{arith, refl, sym, ap, subst, ◌∙◌, drop}
use Rattle.std.proofs.lemmas.List.{drop_all, drop_more}
use Rattle.packed_code.specs.declared.step.PackedStep.TheVariants.{Bit}
use Rattle.packed_reader.specs.proving.Running.{other_bits}
use Rattle.asn_base.specs.Abstract.{AbstractValue, Row}
use Rattle.packed_encodings.specs.Lengths.{Bits}
use Rattle.decode_faults.specs.declared.refusal.Refusal.TheVariants.{NotCanonical, Padding}
use Rattle.packed_reader.specs.declared.sent.Sent.{Sent}
use Rattle.packed_reader.specs.declared.stop.Stop.{Stop}
use Rattle.packed_reader.specs.Readings.{Reading, read, Taken, taken}
use Rattle.packed_reader.specs.Structures.{bitmap_from, is_filling}
use Rattle.packed_reader.specs.proving.Code.{IsStopAt}
use Rattle.packed_reader.specs.proving.Running.{any_sent, is_addition}
use Rattle.packed_reader.proofs.Flow.{stop_at, stop_next, went_same}
use Rattle.packed_reader.proofs.ValueRun.{open_none}
use Rattle.packed_reader.proofs.OpenRun.{err_as as open_err_as, ok_as as open_ok_as, went_on as open_went_on, room_after as open_room_after, room_shorter, Octets, octets_few, inner_room, inner_went, left_in, place_room, inner_good, inner_bad, inner_stop, added_stop, added_good, field_inside, are_sent, some_sent, none_sent, stop_sent, one_of, first_none, before_as, before_none, before_left, before_read, before_stop, before_end, before_fault, before_went}
use Rattle.packed_reader.specs.Code.{scalar_value}
use Rattle.packed_reader.specs.Structures.{with_value}
use Rattle.packed_reader.proofs.+reads.Goals as goal
use Rattle.std.proofs.Common.{arith, refl, sym, ap, subst, ◌∙◌}
use Rattle.decode_faults.specs.declared.refusal.Refusal.TheVariants as why
use Rattle.packed_reader.specs.Readings.{read, taken}
use Rattle.packed_reader.proofs.Flow.{stop_next, stop_as, stop_at}
use Rattle.packed_reader.specs.declared.plan.Plan.TheVariants as plans
use Rattle.packed_reader.specs.proving.Plans.{run_plan}
use Rattle.packed_reader.proofs.ValueRun.{value_steps, value_deep, value_full, value_of, went_value, fewer_value, got_as, row_as, stops_as, went_on as both_went, went_ok, went_done, went_shorter, room_left}
use Rattle.std.proofs.Common.{drop, map}
use Rattle.std.proofs.lemmas.List.{drop_more}
use Rattle.asn_base.specs.Seen.{component_of, kind_of}
use Rattle.packed_reader.specs.Structures.{mark_from}
use Rattle.packed_reader.specs.proving.Running.{as_fields, run_absent}
use Rattle.packed_writer.specs.proving.Values.{FieldOf}
use Rattle.packed_reader.proofs.Plans.{as_plan, fits_as, type_there}
use Rattle.packed_reader.proofs.Flow.{went_same}
use Rattle.packed_writer.specs.proving.Fields.{next_is, fields_fit}
use Rattle.packed_encodings.specs.proving.Lists.{all_take, all_drop}
use Rattle.packed_reader.proofs.Calls.{call_shorter, call_room, components_are, components_many, map-length, is_component, default_as}
use Rattle.packed_reader.proofs.MemberRun.{kind_found, within_row, present_stop, present_same, present_ok, same_as_default, no_default, never_default, some_skipped, absent_ok, absent_deep, member_present, member_absent, members_next, members_stop, members_end, sent_there, sent_fit, no_mark, no_presences, no_members, rest_is, calls_have_width, chosen_open, chosen_root, chosen_as, chosen_stop, next', only_memory, whatever}
use Rattle.packed_reader.proofs.+reads.Goals.{components::read_component-else-progress-skipped-via-then-progress-skipped+then-field+else-is_default, components::read_component-else-progress-skipped-via-then-progress-skipped+else-field, components::read_component-else-progress-skipped-via-else-progress-skipped}

as_steps : {t : ℕ} (c : goal.value::read_value-After-read_steps t) → run_value c.args.reader.code.now c.args.reader.levels c.args.reader.id.index c.args.progress.now.skipped c.args.progress.now.left (bits_left c.args.bits.now)
    ≡ run_steps c.args.reader.code.now (c.args.reader.levels - 1) (run_value c.args.reader.code.now (c.args.reader.levels - 1)) c.args.reader.id.index (routine_at c.args.reader.code.now c.args.reader.id.index) c.args.progress.now.skipped (c.args.progress.now.left - 1) (bits_left c.args.bits.now)
as_steps c = value_steps c.running_laws.ensures c.args.reader.code.now c.args.reader.levels c.args.reader.id.index c.args.progress.now.skipped c.args.progress.now.left (bits_left c.args.bits.now) (let h = c.if-reader-eq0.false in omega (arith, h)) (let h = c.if-progress-eq0.false in omega (arith, h))

pub additions::read_added-read_opened-requires : goal.additions::read_added-read_opened-requires
additions::read_added-read_opened-requires t c =
    let lt : 30 * c.args.reader.levels + 10 < t = let d = c.decreases in omega (arith, d) in
    (lt, (c.requires.few, c.requires.room))

pub additions::read_added-returns-in-Err-clause-err : goal.additions::read_added-returns-in-Err-clause-err
additions::read_added-returns-in-Err-clause-err t c =
    let s = c.args.reader.code.now in
    let l = c.args.reader.levels in
    let k = c.args.progress.now.skipped in
    let n = c.args.progress.now.left in
    let b = bits_left c.args.bits.now in
    added_stop (run_value s l) c.args.field (row_of_values c.args.row.now.items) k n b (bits_left c.read_opened.new.bits) c.in-Err.stop c.within.result c.in-Err.ensures.err c.within.ensures

pub additions::read_added-returns-in-Err-clause-places : goal.additions::read_added-returns-in-Err-clause-places
additions::read_added-returns-in-Err-clause-places t c = refl

pub additions::read_added-put-requires : goal.additions::read_added-put-requires
additions::read_added-put-requires t c = field_inside c.args.reader.code.now c.args.reader.id.index c.args.field (length c.args.row.now.items) c.requires.fits c.requires.places

pub additions::read_added-returns-clause-ok : goal.additions::read_added-returns-clause-ok
additions::read_added-returns-clause-ok t c =
    let s = c.args.reader.code.now in
    let l = c.args.reader.levels in
    let k = c.args.progress.now.skipped in
    let n = c.args.progress.now.left in
    let b = bits_left c.args.bits.now in
    added_good (run_value s l) c.args.field (row_of_values c.args.row.now.items) k n b (bits_left c.read_opened.new.bits) (row_of_values c.put.new.row.items) (abstract c.in-Ok.value) c.read_opened.new.progress.skipped c.read_opened.new.progress.left c.in-Ok.ensures.ok c.put.ensures.row

pub additions::read_added-returns-clause-advanced : goal.additions::read_added-returns-clause-advanced
additions::read_added-returns-clause-advanced t c = c.in-Ok.ensures.advanced

pub additions::read_added-returns-clause-places : goal.additions::read_added-returns-clause-places
additions::read_added-returns-clause-places t c = c.put.ensures.length

pub additions::read_addition-returns-in_default-clause-ok : goal.additions::read_addition-returns-in_default-clause-ok
additions::read_addition-returns-in_default-clause-ok t c =
    let s = c.args.reader.code.now in
    let l = c.args.reader.levels in
    let k = c.args.progress.now.skipped in
    let n = c.args.progress.now.left in
    let b = bits_left c.args.bits.now in
    let cs = components (kind_at s c.args.reader.id.index) in
    let ws = row_of_values c.args.row.now.items in
    ap (λ q. run_first s l (run_value s l) cs q ws k n b) c.in_default.ensures

pub additions::read_addition-returns-in_default-clause-advanced :
    goal.additions::read_addition-returns-in_default-clause-advanced
additions::read_addition-returns-in_default-clause-advanced t c = went_same c.args.progress.now (bits_left c.args.bits.now)

pub additions::read_addition-returns-in_default-clause-places :
    goal.additions::read_addition-returns-in_default-clause-places
additions::read_addition-returns-in_default-clause-places t c = refl

pub additions::read_addition-read_added-requires : goal.additions::read_addition-read_added-requires
additions::read_addition-read_added-requires t c =
    let s = c.args.reader.code.now in
    let u = c.args.reader.id.index in
    let lt : 30 * c.args.reader.levels + 17 < t = let d = c.decreases in omega (arith, d) in
    let g = subst (FieldsFit s u) (c.in-Some.ensures ∙ ap (λ q. q ∷ c.in-Some.rest.now) c.in-Added.is) c.requires.fit in
    (lt, (c.requires.few, (c.requires.room, (g.0, c.requires.places))))

pub additions::read_addition-read_group-requires : goal.additions::read_addition-read_group-requires
additions::read_addition-read_group-requires t c =
    let s = c.args.reader.code.now in
    let u = c.args.reader.id.index in
    let lt : 30 * c.args.reader.levels + 23 < t = let d = c.decreases in omega (arith, d) in
    let g = subst (FieldsFit s u) (c.in-Some.ensures ∙ ap (λ q. q ∷ c.in-Some.rest.now) c.in-Group.is) c.requires.fit in
    (lt, (c.requires.few, (c.requires.room, (subst (FieldsFit s u) (sym c.next.ensures) (all_take (FieldOf s u) c.in-Group.count c.in-Some.rest.now g.1), c.requires.places))))

pub additions::read_addition-returns-in-Added-clause-ok : goal.additions::read_addition-returns-in-Added-clause-ok
additions::read_addition-returns-in-Added-clause-ok t c =
    let s = c.args.reader.code.now in
    let l = c.args.reader.levels in
    let k = c.args.progress.now.skipped in
    let n = c.args.progress.now.left in
    let b = bits_left c.args.bits.now in
    let cs = components (kind_at s c.args.reader.id.index) in
    let ws = row_of_values c.args.row.now.items in
    let e : run_first s l (run_value s l) cs c.args.steps.now ws k n b ≡ run_added (run_value s l) c.in-Added.field ws k n b
    = ap (λ q. run_first s l (run_value s l) cs q ws k n b) (c.in-Some.ensures ∙ ap (λ q. q ∷ c.in-Some.rest.now) c.in-Added.is) in
    open_ok_as c.read_added.result (run_first s l (run_value s l) cs c.args.steps.now ws k n b) (run_added (run_value s l) c.in-Added.field ws k n b) (taken (row_of_values c.read_added.new.row.items) c.read_added.new.progress.skipped c.read_added.new.progress.left) (bits_left c.read_added.new.bits) e c.read_added.ensures.ok

pub additions::read_addition-returns-in-Added-clause-err : goal.additions::read_addition-returns-in-Added-clause-err
additions::read_addition-returns-in-Added-clause-err t c =
    let s = c.args.reader.code.now in
    let l = c.args.reader.levels in
    let k = c.args.progress.now.skipped in
    let n = c.args.progress.now.left in
    let b = bits_left c.args.bits.now in
    let cs = components (kind_at s c.args.reader.id.index) in
    let ws = row_of_values c.args.row.now.items in
    let e : run_first s l (run_value s l) cs c.args.steps.now ws k n b ≡ run_added (run_value s l) c.in-Added.field ws k n b
    = ap (λ q. run_first s l (run_value s l) cs q ws k n b) (c.in-Some.ensures ∙ ap (λ q. q ∷ c.in-Some.rest.now) c.in-Added.is) in
    open_err_as c.read_added.result (run_first s l (run_value s l) cs c.args.steps.now ws k n b) (run_added (run_value s l) c.in-Added.field ws k n b) (bits_left c.read_added.new.bits) e c.read_added.ensures.err

pub additions::read_addition-returns-in-Added-clause-advanced : goal.additions::read_addition-returns-in-Added-clause-advanced
additions::read_addition-returns-in-Added-clause-advanced t c = c.read_added.ensures.advanced

pub additions::read_addition-returns-in-Added-clause-places :
    goal.additions::read_addition-returns-in-Added-clause-places
additions::read_addition-returns-in-Added-clause-places t c = c.read_added.ensures.places

pub additions::read_addition-returns-in-Group-clause-ok : goal.additions::read_addition-returns-in-Group-clause-ok
additions::read_addition-returns-in-Group-clause-ok t c =
    let s = c.args.reader.code.now in
    let l = c.args.reader.levels in
    let k = c.args.progress.now.skipped in
    let n = c.args.progress.now.left in
    let b = bits_left c.args.bits.now in
    let cs = components (kind_at s c.args.reader.id.index) in
    let ws = row_of_values c.args.row.now.items in
    let fs = fields_in c.next.result.now in
    let e : run_first s l (run_value s l) cs c.args.steps.now ws k n b ≡ run_group s l (run_value s l) cs fs ws k n b
    = ap (λ q. run_first s l (run_value s l) cs q ws k n b) (c.in-Some.ensures ∙ ap (λ q. q ∷ c.in-Some.rest.now) c.in-Group.is)
    ∙ ap (λ q. run_group s l (run_value s l) cs q ws k n b) (next_is c.in-Group.count c.in-Some.rest.now ∙ ap fields_in (sym c.next.ensures)) in
    open_ok_as c.read_group.result (run_first s l (run_value s l) cs c.args.steps.now ws k n b) (run_group s l (run_value s l) cs fs ws k n b) (taken (row_of_values c.read_group.new.row.items) c.read_group.new.progress.skipped c.read_group.new.progress.left) (bits_left c.read_group.new.bits) e c.read_group.ensures.ok

pub additions::read_addition-returns-in-Group-clause-err : goal.additions::read_addition-returns-in-Group-clause-err
additions::read_addition-returns-in-Group-clause-err t c =
    let s = c.args.reader.code.now in
    let l = c.args.reader.levels in
    let k = c.args.progress.now.skipped in
    let n = c.args.progress.now.left in
    let b = bits_left c.args.bits.now in
    let cs = components (kind_at s c.args.reader.id.index) in
    let ws = row_of_values c.args.row.now.items in
    let fs = fields_in c.next.result.now in
    let e : run_first s l (run_value s l) cs c.args.steps.now ws k n b ≡ run_group s l (run_value s l) cs fs ws k n b
    = ap (λ q. run_first s l (run_value s l) cs q ws k n b) (c.in-Some.ensures ∙ ap (λ q. q ∷ c.in-Some.rest.now) c.in-Group.is)
    ∙ ap (λ q. run_group s l (run_value s l) cs q ws k n b) (next_is c.in-Group.count c.in-Some.rest.now ∙ ap fields_in (sym c.next.ensures)) in
    open_err_as c.read_group.result (run_first s l (run_value s l) cs c.args.steps.now ws k n b) (run_group s l (run_value s l) cs fs ws k n b) (bits_left c.read_group.new.bits) e c.read_group.ensures.err

pub additions::read_addition-returns-in-Group-clause-advanced : goal.additions::read_addition-returns-in-Group-clause-advanced
additions::read_addition-returns-in-Group-clause-advanced t c = c.read_group.ensures.advanced

pub additions::read_addition-returns-in-Group-clause-places :
    goal.additions::read_addition-returns-in-Group-clause-places
additions::read_addition-returns-in-Group-clause-places t c = c.read_group.ensures.places

pub additions::read_addition-returns-in-Bit-clause-ok : goal.additions::read_addition-returns-in-Bit-clause-ok
additions::read_addition-returns-in-Bit-clause-ok t c =
    let s = c.args.reader.code.now in
    let l = c.args.reader.levels in
    let k = c.args.progress.now.skipped in
    let n = c.args.progress.now.left in
    let b = bits_left c.args.bits.now in
    let cs = components (kind_at s c.args.reader.id.index) in
    let ws = row_of_values c.args.row.now.items in
    let none : is_addition c.in-Some.step ≡ false = (one_of (λ e. ap is_addition e) (one_of (λ e. ap is_addition e.2) (one_of (λ e. ap is_addition e) (λ e. ap is_addition e.1)))) c.in-Bit.is in
    ap (λ q. run_first s l (run_value s l) cs q ws k n b) c.in-Some.ensures ∙ first_none s l (run_value s l) cs c.in-Some.step c.in-Some.rest.now ws k n b none

pub additions::read_addition-returns-in-Bit-clause-advanced : goal.additions::read_addition-returns-in-Bit-clause-advanced
additions::read_addition-returns-in-Bit-clause-advanced t c = went_same c.args.progress.now (bits_left c.args.bits.now)

pub additions::read_addition-returns-in-Bit-clause-places : goal.additions::read_addition-returns-in-Bit-clause-places
additions::read_addition-returns-in-Bit-clause-places t c = refl

pub additions::read_addition-returns-in-Map-clause-ok : goal.additions::read_addition-returns-in-Map-clause-ok
additions::read_addition-returns-in-Map-clause-ok t c =
    let s = c.args.reader.code.now in
    let l = c.args.reader.levels in
    let k = c.args.progress.now.skipped in
    let n = c.args.progress.now.left in
    let b = bits_left c.args.bits.now in
    let cs = components (kind_at s c.args.reader.id.index) in
    let ws = row_of_values c.args.row.now.items in
    let none : is_addition c.in-Some.step ≡ false = (one_of (λ e. ap is_addition e.1) (one_of (λ e. ap is_addition e.1) (λ e. ap is_addition e.1))) c.in-Map.is in
    ap (λ q. run_first s l (run_value s l) cs q ws k n b) c.in-Some.ensures ∙ first_none s l (run_value s l) cs c.in-Some.step c.in-Some.rest.now ws k n b none

pub additions::read_addition-returns-in-Map-clause-advanced : goal.additions::read_addition-returns-in-Map-clause-advanced
additions::read_addition-returns-in-Map-clause-advanced t c = went_same c.args.progress.now (bits_left c.args.bits.now)

pub additions::read_addition-returns-in-Map-clause-places : goal.additions::read_addition-returns-in-Map-clause-places
additions::read_addition-returns-in-Map-clause-places t c = refl

pub additions::read_addition-returns-in-Member-clause-ok : goal.additions::read_addition-returns-in-Member-clause-ok
additions::read_addition-returns-in-Member-clause-ok t c =
    let s = c.args.reader.code.now in
    let l = c.args.reader.levels in
    let k = c.args.progress.now.skipped in
    let n = c.args.progress.now.left in
    let b = bits_left c.args.bits.now in
    let cs = components (kind_at s c.args.reader.id.index) in
    let ws = row_of_values c.args.row.now.items in
    let none : is_addition c.in-Some.step ≡ false = (one_of (λ e. ap is_addition e.1) (one_of (λ e. ap is_addition e) (λ e. ap is_addition e.1))) c.in-Member.is in
    ap (λ q. run_first s l (run_value s l) cs q ws k n b) c.in-Some.ensures ∙ first_none s l (run_value s l) cs c.in-Some.step c.in-Some.rest.now ws k n b none

pub additions::read_addition-returns-in-Member-clause-advanced : goal.additions::read_addition-returns-in-Member-clause-advanced
additions::read_addition-returns-in-Member-clause-advanced t c = went_same c.args.progress.now (bits_left c.args.bits.now)

pub additions::read_addition-returns-in-Member-clause-places :
    goal.additions::read_addition-returns-in-Member-clause-places
additions::read_addition-returns-in-Member-clause-places t c = refl

pub additions::read_addition-returns-in-EachSorted-clause-ok :
    goal.additions::read_addition-returns-in-EachSorted-clause-ok
additions::read_addition-returns-in-EachSorted-clause-ok t c =
    let s = c.args.reader.code.now in
    let l = c.args.reader.levels in
    let k = c.args.progress.now.skipped in
    let n = c.args.progress.now.left in
    let b = bits_left c.args.bits.now in
    let cs = components (kind_at s c.args.reader.id.index) in
    let ws = row_of_values c.args.row.now.items in
    let none : is_addition c.in-Some.step ≡ false = (one_of (λ e. ap is_addition e.1) (λ e. ap is_addition e.1)) c.in-EachSorted.is in
    ap (λ q. run_first s l (run_value s l) cs q ws k n b) c.in-Some.ensures ∙ first_none s l (run_value s l) cs c.in-Some.step c.in-Some.rest.now ws k n b none

pub additions::read_addition-returns-in-EachSorted-clause-advanced :
    goal.additions::read_addition-returns-in-EachSorted-clause-advanced
additions::read_addition-returns-in-EachSorted-clause-advanced t c = went_same c.args.progress.now (bits_left c.args.bits.now)

pub additions::read_addition-returns-in-EachSorted-clause-places :
    goal.additions::read_addition-returns-in-EachSorted-clause-places
additions::read_addition-returns-in-EachSorted-clause-places t c = refl

pub additions::read_addition-returns-in-Root-clause-ok : goal.additions::read_addition-returns-in-Root-clause-ok
additions::read_addition-returns-in-Root-clause-ok t c =
    let s = c.args.reader.code.now in
    let l = c.args.reader.levels in
    let k = c.args.progress.now.skipped in
    let n = c.args.progress.now.left in
    let b = bits_left c.args.bits.now in
    let cs = components (kind_at s c.args.reader.id.index) in
    let ws = row_of_values c.args.row.now.items in
    let none : is_addition c.in-Some.step ≡ false = (one_of (λ e. ap is_addition e.1) (λ e. ap is_addition e.2)) c.in-Root.is in
    ap (λ q. run_first s l (run_value s l) cs q ws k n b) c.in-Some.ensures ∙ first_none s l (run_value s l) cs c.in-Some.step c.in-Some.rest.now ws k n b none

pub additions::read_addition-returns-in-Root-clause-advanced : goal.additions::read_addition-returns-in-Root-clause-advanced
additions::read_addition-returns-in-Root-clause-advanced t c = went_same c.args.progress.now (bits_left c.args.bits.now)

pub additions::read_addition-returns-in-Root-clause-places : goal.additions::read_addition-returns-in-Root-clause-places
additions::read_addition-returns-in-Root-clause-places t c = refl

pub additions::read_additions-loop-i-init : goal.additions::read_additions-loop-i-init
additions::read_additions-loop-i-init t c = (refl, went_same c.args.progress.now (bits_left c.args.bits.now), refl)

pub additions::read_additions-offset_bounds-additions-i : goal.additions::read_additions-offset_bounds-additions-i
additions::read_additions-offset_bounds-additions-i t c = search rules

pub additions::read_additions-bounds-additions-i : goal.additions::read_additions-bounds-additions-i
additions::read_additions-bounds-additions-i t c = c.loop-i-test.true

pub additions::read_additions-after-requires : goal.additions::read_additions-after-requires
additions::read_additions-after-requires t c = (let h = c.loop-i-test.true in omega (arith, h))

pub additions::read_additions-read_addition-requires : goal.additions::read_additions-read_addition-requires
additions::read_additions-read_addition-requires t c =
    let s = c.args.reader.code.now in
    let u = c.args.reader.id.index in
    let lt : 30 * c.args.reader.levels + 24 < t = let d = c.decreases in omega (arith, d) in (
      lt,
      (
        c.requires.few,
        (
          open_room_after c.args.progress.now c.loop-i.progress (bits_left c.args.bits.now) (bits_left c.loop-i.bits) c.requires.room c.loop-i.invariant.1,
          (
            subst (FieldsFit s u) (sym c.after.ensures) (all_drop (FieldOf s u) c.loop-i.i c.args.additions.steps.now c.requires.fit),
            c.loop-i.invariant.2 ∙ c.requires.places,
          ),
        ),
      ),
    )

pub additions::read_additions-returns-in-Err-clause-err : goal.additions::read_additions-returns-in-Err-clause-err
additions::read_additions-returns-in-Err-clause-err t c =
    let s = c.args.reader.code.now in
    let l = c.args.reader.levels in
    let cs = components (kind_at s c.args.reader.id.index) in
    let b = bits_left c.args.bits.now in
    let steps = c.args.additions.steps.now in
    let all = run_additions s l (run_value s l) cs steps c.args.additions.map.now (row_of_values c.args.row.now.items) c.args.progress.now.skipped c.args.progress.now.left b in
    let q = c.loop-i.map.now in
    let st = slice_index_or steps c.loop-i.i Bit in
    let d : drop c.loop-i.i steps ≡ st ∷ drop (c.loop-i.i + 1) steps = drop_more steps c.loop-i.i Bit c.loop-i-test.true in
    before_stop s l (run_value s l) cs all c.args.progress.now b (length c.args.row.now.items) (drop c.loop-i.i steps) (drop (c.loop-i.i + 1) steps) st d q c.loop-i.row.items c.loop-i.progress (bits_left c.loop-i.bits) c.loop-i.invariant c.after.result.now c.in-Err.stop (bits_left c.read_addition.new.bits) c.after.ensures (sym c.is_addition.ensures ∙ c.if-is_addition.true) (sym c.first_bit.ensures ∙ c.if-first_bit.true) c.in-Err.ensures.err

pub additions::read_additions-loop-i-smaller : goal.additions::read_additions-loop-i-smaller
additions::read_additions-loop-i-smaller t c = (let h = c.loop-i-test.true in omega (arith, h))

pub additions::read_additions-loop-i-preserved : goal.additions::read_additions-loop-i-preserved
additions::read_additions-loop-i-preserved t c =
    let s = c.args.reader.code.now in
    let l = c.args.reader.levels in
    let cs = components (kind_at s c.args.reader.id.index) in
    let b = bits_left c.args.bits.now in
    let steps = c.args.additions.steps.now in
    let all = run_additions s l (run_value s l) cs steps c.args.additions.map.now (row_of_values c.args.row.now.items) c.args.progress.now.skipped c.args.progress.now.left b in
    let q = c.loop-i.map.now in
    let st = slice_index_or steps c.loop-i.i Bit in
    let d : drop c.loop-i.i steps ≡ st ∷ drop (c.loop-i.i + 1) steps = drop_more steps c.loop-i.i Bit c.loop-i-test.true in
    elim c.if-is_addition.branch [
      | goal.additions::read_additions-then-is_addition w ↦ elim w.if-first_bit.branch [
        | goal.additions::read_additions-then-first_bit+in-Ok w' ↦ before_as s l (run_value s l) cs all c.args.progress.now b (length c.args.row.now.items) (drop (c.loop-i.i + 1) steps) c.if-is_addition.map.now (other_bits q) c.if-is_addition.row.items w'.read_addition.new.row.items c.if-is_addition.progress w'.read_addition.new.progress (bits_left c.if-is_addition.bits) (bits_left w'.read_addition.new.bits)
            (ap (λ m. m.now) w.map-is ∙ w.other_bits-map.ensures) (ap (λ v. v.items) (w.row-is ∙ w'.row-is)) (w.progress-is ∙ w'.progress-is) (ap bits_left (w.bits-is ∙ w'.bits-is))
            (before_read s l (run_value s l) cs all c.args.progress.now b (length c.args.row.now.items) (drop c.loop-i.i steps) (drop (c.loop-i.i + 1) steps) st d q c.loop-i.row.items c.loop-i.progress (bits_left c.loop-i.bits) c.loop-i.invariant w'.after.result.now w'.read_addition.new.row.items w'.read_addition.new.progress (bits_left w'.read_addition.new.bits) w'.after.ensures (sym c.is_addition.ensures ∙ w.if-is_addition.true) (sym w.first_bit.ensures ∙ w'.if-first_bit.true) w'.in-Ok.ensures.ok w'.in-Ok.ensures.advanced w'.in-Ok.ensures.places)
        | goal.additions::read_additions-else-first_bit w' ↦ before_as s l (run_value s l) cs all c.args.progress.now b (length c.args.row.now.items) (drop (c.loop-i.i + 1) steps) c.if-is_addition.map.now (other_bits q) c.if-is_addition.row.items c.loop-i.row.items c.if-is_addition.progress c.loop-i.progress (bits_left c.if-is_addition.bits) (bits_left c.loop-i.bits)
            (ap (λ m. m.now) w.map-is ∙ w.other_bits-map.ensures) (ap (λ v. v.items) (w.row-is ∙ w'.row-is)) (w.progress-is ∙ w'.progress-is) (ap bits_left (w.bits-is ∙ w'.bits-is))
            (before_left s l (run_value s l) cs all c.args.progress.now b (length c.args.row.now.items) (drop c.loop-i.i steps) (drop (c.loop-i.i + 1) steps) st d q c.loop-i.row.items c.loop-i.progress (bits_left c.loop-i.bits) c.loop-i.invariant (sym c.is_addition.ensures ∙ w.if-is_addition.true) (sym w.first_bit.ensures ∙ w'.if-first_bit.false))
      ]
      | goal.additions::read_additions-else-is_addition w ↦ before_as s l (run_value s l) cs all c.args.progress.now b (length c.args.row.now.items) (drop (c.loop-i.i + 1) steps) c.if-is_addition.map.now q c.if-is_addition.row.items c.loop-i.row.items c.if-is_addition.progress c.loop-i.progress (bits_left c.if-is_addition.bits) (bits_left c.loop-i.bits)
          (ap (λ m. m.now) w.map-is) (ap (λ v. v.items) (w.row-is)) (w.progress-is) (ap bits_left (w.bits-is))
          (before_none s l (run_value s l) cs all c.args.progress.now b (length c.args.row.now.items) (drop c.loop-i.i steps) (drop (c.loop-i.i + 1) steps) st d q c.loop-i.row.items c.loop-i.progress (bits_left c.loop-i.bits) c.loop-i.invariant (sym c.is_addition.ensures ∙ w.if-is_addition.false))
    ]

pub additions::read_additions-skip_unknown-requires : goal.additions::read_additions-skip_unknown-requires
additions::read_additions-skip_unknown-requires t c = open_room_after c.args.progress.now c.loop-i.progress (bits_left c.args.bits.now) (bits_left c.loop-i.bits) c.requires.room c.loop-i.invariant.1

pub additions::read_additions-returns-clause-ok : goal.additions::read_additions-returns-clause-ok
additions::read_additions-returns-clause-ok t c =
    let s = c.args.reader.code.now in
    let l = c.args.reader.levels in
    let k = c.args.progress.now.skipped in
    let n = c.args.progress.now.left in
    let b = bits_left c.args.bits.now in
    let cs = components (kind_at s c.args.reader.id.index) in
    let ws = row_of_values c.args.row.now.items in
    let all = run_additions s l (run_value s l) cs c.args.additions.steps.now c.args.additions.map.now ws k n b in
    let ss = drop c.loop-i.i c.args.additions.steps.now in
    let q = c.loop-i.map.now in
    let none : ss ≡ [] = drop_all c.loop-i.i c.args.additions.steps.now (let h = c.loop-i-test.false in omega (arith, h)) in
    before_end s l (run_value s l) cs all c.args.progress.now b (length c.args.row.now.items) ss q c.loop-i.row.items c.loop-i.progress (bits_left c.loop-i.bits) c.loop-i.invariant none c.skip_unknown.result c.skip_unknown.new.progress (bits_left c.skip_unknown.new.bits) c.skip_unknown.ensures.ok c.skip_unknown.ensures.left

pub additions::read_additions-returns-clause-err : goal.additions::read_additions-returns-clause-err
additions::read_additions-returns-clause-err t c =
    let s = c.args.reader.code.now in
    let l = c.args.reader.levels in
    let k = c.args.progress.now.skipped in
    let n = c.args.progress.now.left in
    let b = bits_left c.args.bits.now in
    let cs = components (kind_at s c.args.reader.id.index) in
    let ws = row_of_values c.args.row.now.items in
    let all = run_additions s l (run_value s l) cs c.args.additions.steps.now c.args.additions.map.now ws k n b in
    let ss = drop c.loop-i.i c.args.additions.steps.now in
    let q = c.loop-i.map.now in
    let none : ss ≡ [] = drop_all c.loop-i.i c.args.additions.steps.now (let h = c.loop-i-test.false in omega (arith, h)) in
    before_fault s l (run_value s l) cs all c.args.progress.now b (length c.args.row.now.items) ss q c.loop-i.row.items c.loop-i.progress (bits_left c.loop-i.bits) c.loop-i.invariant none c.skip_unknown.result (bits_left c.skip_unknown.new.bits) c.skip_unknown.ensures.err

pub additions::read_additions-returns-clause-advanced : goal.additions::read_additions-returns-clause-advanced
additions::read_additions-returns-clause-advanced t c =
    let s = c.args.reader.code.now in
    let l = c.args.reader.levels in
    let k = c.args.progress.now.skipped in
    let n = c.args.progress.now.left in
    let b = bits_left c.args.bits.now in
    let cs = components (kind_at s c.args.reader.id.index) in
    let ws = row_of_values c.args.row.now.items in
    let all = run_additions s l (run_value s l) cs c.args.additions.steps.now c.args.additions.map.now ws k n b in
    let ss = drop c.loop-i.i c.args.additions.steps.now in
    let q = c.loop-i.map.now in
    let none : ss ≡ [] = drop_all c.loop-i.i c.args.additions.steps.now (let h = c.loop-i-test.false in omega (arith, h)) in
    before_went s l (run_value s l) cs all c.args.progress.now b (length c.args.row.now.items) ss q c.loop-i.row.items c.loop-i.progress (bits_left c.loop-i.bits) c.loop-i.invariant none c.skip_unknown.result c.skip_unknown.new.progress (bits_left c.skip_unknown.new.bits) c.skip_unknown.ensures.room c.skip_unknown.ensures.left

pub elements::read_each-size_of-constraint-requires : goal.elements::read_each-size_of-constraint-requires
elements::read_each-size_of-constraint-requires t c = subst (λ q. IsList q c.args.reader.id.index) (sym c.schema.ensures) c.requires.list

pub elements::read_each-read_list-requires : goal.elements::read_each-read_list-requires
elements::read_each-read_list-requires t c =
    let lt : 30 * c.args.reader.levels + 27 < t = let d = c.decreases in omega (arith, d) in
    (lt, (c.requires.few, (c.requires.room, (c.size_of-constraint.ensures.bounds, c.new-list.ensures))))

pub elements::read_each-returns-in-Ok-clause-ok : goal.elements::read_each-returns-in-Ok-clause-ok
elements::read_each-returns-in-Ok-clause-ok t c =
    let s = c.args.reader.code.now in
    let value = run_value s c.args.reader.levels in
    let k = constraint_of c.size_of-constraint.result.now in
    let e = size_is s c.schema.result.now c.args.reader.id.index k c.schema.ensures c.size_of-constraint.ensures in
    each_read s value c.args.reader.id.index c.args.sorted c.args.element.index k c.args.progress.now.skipped c.args.progress.now.left (bits_left c.args.bits.now)
    (gathered c.read_list.new.list) _ c.read_list.new.progress.skipped c.read_list.new.progress.left (bits_left c.read_list.new.bits)
    e c.in-Ok.ensures.ok (c.lemma_abstract_values.ensures.list_ c.read_list.new.list.values)

pub elements::read_each-returns-in-Ok-clause-advanced : goal.elements::read_each-returns-in-Ok-clause-advanced
elements::read_each-returns-in-Ok-clause-advanced t c = c.in-Ok.ensures.advanced

pub elements::read_each-returns-in-Err-clause-err : goal.elements::read_each-returns-in-Err-clause-err
elements::read_each-returns-in-Err-clause-err t c =
    let s = c.args.reader.code.now in
    let value = run_value s c.args.reader.levels in
    let k = constraint_of c.size_of-constraint.result.now in
    let e = size_is s c.schema.result.now c.args.reader.id.index k c.schema.ensures c.size_of-constraint.ensures in
    each_stops s value c.args.reader.id.index c.args.sorted c.args.element.index k c.args.progress.now.skipped c.args.progress.now.left (bits_left c.args.bits.now)
    c.in-Err.stop (bits_left c.read_list.new.bits) e c.in-Err.ensures.err

pub elements::read_element-read_value-requires : goal.elements::read_element-read_value-requires
elements::read_element-read_value-requires t c =
    let lt : 30 * c.args.reader.levels + 1 < t = let d = c.decreases in omega (arith, d) in
    let few : c.args.reader.levels ≤ 64 = let h = c.requires.few in omega (arith, h) in
    (lt, (few, c.requires.room))

pub elements::read_element-returns-in-Err-clause-err : goal.elements::read_element-returns-in-Err-clause-err
elements::read_element-returns-in-Err-clause-err t c =
    let value = run_value c.args.reader.code.now c.args.reader.levels c.args.reader.id.index in
    let es = gathered c.args.list.now in
    let b = bits_left c.args.bits.now in
    let r = bits_left c.read_value.new.bits in
    let p = c.args.progress.now in
    let q = c.read_value.new.progress in
    let i : c.len-number.result ≡ length es.values = c.len-number.ensures ∙ c.args.list.now.values.ok.0 ∙ sym (length-map c.args.list.now.values.items abstract) in
    element_stops value c.args.sorted es p.skipped p.left b c.len-number.result c.in-Err.stop c.within.result r i c.in-Err.ensures.err c.within.ensures

pub elements::read_element-overflow_sub-len : goal.elements::read_element-overflow_sub-len
elements::read_element-overflow_sub-len t c =
    let l = fewer_left c.args.progress.now c.read_value.new.progress (bits_left c.args.bits.now) (bits_left c.read_value.new.bits) (value_by c.args.reader.code.now c.args.reader.levels c.args.reader.id.index c.args.progress.now.left (bits_left c.args.bits.now)) (abstract c.in-Ok.value) c.in-Ok.ensures.ok c.in-Ok.ensures.advanced in
    let e = c.len.ensures in
    let f = c.len-2.ensures in
    omega (arith, l, e, f)

pub elements::read_element-front-own-requires : goal.elements::read_element-front-own-requires
elements::read_element-front-own-requires t c = let e = c.len.ensures in omega (arith, e)

pub elements::read_element-returns-then-not-at_most-clause-err :
    goal.elements::read_element-returns-then-not-at_most-clause-err
elements::read_element-returns-then-not-at_most-clause-err t c =
    let value = run_value c.args.reader.code.now c.args.reader.levels c.args.reader.id.index in
    let es = gathered c.args.list.now in
    let b = bits_left c.args.bits.now in
    let r = bits_left c.read_value.new.bits in
    let p = c.args.progress.now in
    let q = c.read_value.new.progress in
    let i : c.len-number.result ≡ length es.values = c.len-number.ensures ∙ c.args.list.now.values.ok.0 ∙ sym (length-map c.args.list.now.values.items abstract) in
    let own = own_are (bits_left c.front-own.result) b r c.len.result c.len-2.result c.len.ensures c.len-2.ensures c.front-own.ensures in
    let o = not_in_order c.args.sorted c.at_most.result (at_most es.before (bits_left c.front-own.result)) c.if-sorted.true c.if-not-at_most.true c.at_most.ensures in
    element_refused value c.args.sorted es p.skipped p.left b c.len-number.result (taken (abstract c.in-Ok.value) q.skipped q.left) r (bits_left c.front-own.result)
    c.at-stop.result c.within-then-not-at_most.result i c.in-Ok.ensures.ok own o c.at-stop.ensures c.within-then-not-at_most.ensures

pub elements::read_element-returns-in_err-push-clause-ok : goal.elements::read_element-returns-in_err-push-clause-ok
elements::read_element-returns-in_err-push-clause-ok t c = nothing_returned _ c.from_residual.result c.from_residual.ensures.1

pub elements::read_element-returns-in_err-push-clause-err : goal.elements::read_element-returns-in_err-push-clause-err
elements::read_element-returns-in_err-push-clause-err t c = memory_stops _ _ c.from_residual.result c.from_residual.ensures.1

pub elements::read_element-returns-in_err-push-clause-advanced :
    goal.elements::read_element-returns-in_err-push-clause-advanced
elements::read_element-returns-in_err-push-clause-advanced t c = nothing_returned _ c.from_residual.result c.from_residual.ensures.1

pub elements::read_element-returns-in_err-push-clause-fewer :
    goal.elements::read_element-returns-in_err-push-clause-fewer
elements::read_element-returns-in_err-push-clause-fewer t c = nothing_returned _ c.from_residual.result c.from_residual.ensures.1

pub elements::read_element-returns-clause-ok : goal.elements::read_element-returns-clause-ok
elements::read_element-returns-clause-ok t c =
    let value = run_value c.args.reader.code.now c.args.reader.levels c.args.reader.id.index in
    let es = gathered c.args.list.now in
    let b = bits_left c.args.bits.now in
    let r = bits_left c.read_value.new.bits in
    let p = c.args.progress.now in
    let q = c.read_value.new.progress in
    let own = own_are (bits_left c.front-own.result) b r c.len.result c.len-2.result c.len.ensures c.len-2.ensures c.front-own.ensures in
    let given = at_most es.before (bits_left c.front-own.result) in
    let o : (not c.args.sorted || given) ≡ true = elim c.else-sorted.branch [
      | elements::read_element-else-sorted-via-then-sorted+else-not-at_most w ↦ in_order_by c.args.sorted w.at_most.result given w.if-not-at_most.false w.at_most.ensures
      | elements::read_element-else-sorted-via-else-sorted w ↦ in_any_order c.args.sorted given w.if-sorted.false
    ] in
    element_read value c.args.sorted es p.skipped p.left b (abstract c.in-Ok.value) q.skipped q.left r (bits_left c.front-own.result) (map abstract c.push.new.self.items)
    c.in-Ok.ensures.ok own o (ap (map abstract) c.in_ok-push.ensures.items ∙ map_push abstract c.args.list.now.values.items c.in-Ok.value)

pub elements::read_element-returns-clause-advanced : goal.elements::read_element-returns-clause-advanced
elements::read_element-returns-clause-advanced t c = c.in-Ok.ensures.advanced

pub elements::read_element-returns-clause-fewer : goal.elements::read_element-returns-clause-fewer
elements::read_element-returns-clause-fewer t c = c.in-Ok.ensures.fewer

pub elements::read_elements-loop-i-init : goal.elements::read_elements-loop-i-init
elements::read_elements-loop-i-init t c = elements_none (run_value c.args.reader.code.now c.args.reader.levels c.args.reader.id.index) c.args.batch.sorted c.args.batch.count (gathered c.args.list.now) c.args.progress.now (bits_left c.args.bits.now)

pub elements::read_elements-read_element-requires : goal.elements::read_elements-read_element-requires
elements::read_elements-read_element-requires t c =
    let lt : 30 * c.args.reader.levels + 23 < t = let d = c.decreases in omega (arith, d) in
    (lt, (c.requires.few, room_after c.args.progress.now c.loop-i.progress (bits_left c.args.bits.now) (bits_left c.loop-i.bits) c.loop-i.invariant.1 c.requires.room))

pub elements::read_elements-returns-in-Err-clause-err : goal.elements::read_elements-returns-in-Err-clause-err
elements::read_elements-returns-in-Err-clause-err t c =
    let value = run_value c.args.reader.code.now c.args.reader.levels c.args.reader.id.index in
    let m = c.args.batch.count in
    let b = bits_left c.args.bits.now in
    let p = c.args.progress.now in
    let es = gathered c.args.list.now in
    let z = bits_left c.loop-i.bits in
    let q = c.loop-i.progress in
    let fs = gathered c.loop-i.list in
    elements_stop value c.args.batch.sorted m c.loop-i._i es fs p q b z c.in-Err.stop (bits_left c.read_element.new.bits) c.loop-i-test.true c.loop-i.invariant c.in-Err.ensures.err

pub elements::read_elements-loop-i-smaller : goal.elements::read_elements-loop-i-smaller
elements::read_elements-loop-i-smaller t c = let l = c.loop-i-test.true in omega (arith, l)

pub elements::read_elements-loop-i-preserved : goal.elements::read_elements-loop-i-preserved
elements::read_elements-loop-i-preserved t c =
    let value = run_value c.args.reader.code.now c.args.reader.levels c.args.reader.id.index in
    let m = c.args.batch.count in
    let b = bits_left c.args.bits.now in
    let p = c.args.progress.now in
    let es = gathered c.args.list.now in
    let z = bits_left c.loop-i.bits in
    let q = c.loop-i.progress in
    let fs = gathered c.loop-i.list in
    elements_more value c.args.batch.sorted m c.loop-i._i es fs p q b z (gathered c.read_element.new.list) c.read_element.new.progress (bits_left c.read_element.new.bits)
    c.loop-i-test.true c.loop-i.invariant c.in-Ok.ensures.ok c.in-Ok.ensures.advanced c.in-Ok.ensures.fewer

pub elements::read_elements-returns-clause-ok : goal.elements::read_elements-returns-clause-ok
elements::read_elements-returns-clause-ok t c =
    let value = run_value c.args.reader.code.now c.args.reader.levels c.args.reader.id.index in
    let m = c.args.batch.count in
    let b = bits_left c.args.bits.now in
    let p = c.args.progress.now in
    let es = gathered c.args.list.now in
    let z = bits_left c.loop-i.bits in
    let q = c.loop-i.progress in
    let fs = gathered c.loop-i.list in
    let l : m ≤ c.loop-i._i = let h = c.loop-i-test.false in omega (arith, h) in
    elements_all value c.args.batch.sorted m c.loop-i._i es fs p q b z l c.loop-i.invariant

pub elements::read_elements-returns-clause-advanced : goal.elements::read_elements-returns-clause-advanced
elements::read_elements-returns-clause-advanced t c = c.loop-i.invariant.1

pub elements::read_elements-returns-clause-fewer : goal.elements::read_elements-returns-clause-fewer
elements::read_elements-returns-clause-fewer t c =
    let m = c.args.batch.count in
    let h = c.loop-i-test.false in
    let k = c.loop-i.invariant.2 in
    omega (arith, h, k)

pub additions::read_extension-returns-in-Err-clause-err : goal.additions::read_extension-returns-in-Err-clause-err
additions::read_extension-returns-in-Err-clause-err t c =
    let s = c.args.reader.code.now in
    let l = c.args.reader.levels in
    let k = c.args.progress.now.skipped in
    let n = c.args.progress.now.left in
    let b = bits_left c.args.bits.now in
    let cs = components (kind_at s c.args.reader.id.index) in
    let ws = row_of_values c.args.row.now.items in
    let r = bits_left c.read_bitmap.new.bits in
    let go : List Bool → List Bool → Reading (Taken Row) = λ q r. run_additions s l (run_value s l) cs c.args.steps.now q ws k n r in
    stop_next (bitmap_from b) go c.in-Err.stop r c.in-Err.ensures.err

pub additions::read_extension-read_additions-requires : goal.additions::read_extension-read_additions-requires
additions::read_extension-read_additions-requires t c =
    let lt : 30 * c.args.reader.levels + 25 < t = let d = c.decreases in omega (arith, d) in
    (lt, (c.requires.few, (room_shorter c.args.progress.now (bits_left c.args.bits.now) (bits_left c.read_bitmap.new.bits) c.requires.room c.in-Ok.ensures.shorter, (c.requires.fit, c.requires.places))))

pub additions::read_extension-returns-clause-ok : goal.additions::read_extension-returns-clause-ok
additions::read_extension-returns-clause-ok t c =
    let s = c.args.reader.code.now in
    let l = c.args.reader.levels in
    let k = c.args.progress.now.skipped in
    let n = c.args.progress.now.left in
    let b = bits_left c.args.bits.now in
    let cs = components (kind_at s c.args.reader.id.index) in
    let ws = row_of_values c.args.row.now.items in
    let r = bits_left c.read_bitmap.new.bits in
    let go : List Bool → List Bool → Reading (Taken Row) = λ q r. run_additions s l (run_value s l) cs c.args.steps.now q ws k n r in
    let e : onward (bitmap_from b) go ≡ go c.as_slice.result.now r = ap (λ o. onward o go) c.in-Ok.ensures.ok ∙ ap (λ q. go q r) (sym c.as_slice.ensures.value) in
    open_ok_as c.read_additions.result (onward (bitmap_from b) go) (go c.as_slice.result.now r) (taken (row_of_values c.read_additions.new.row.items) c.read_additions.new.progress.skipped c.read_additions.new.progress.left) (bits_left c.read_additions.new.bits) e c.read_additions.ensures.ok

pub additions::read_extension-returns-clause-err : goal.additions::read_extension-returns-clause-err
additions::read_extension-returns-clause-err t c =
    let s = c.args.reader.code.now in
    let l = c.args.reader.levels in
    let k = c.args.progress.now.skipped in
    let n = c.args.progress.now.left in
    let b = bits_left c.args.bits.now in
    let cs = components (kind_at s c.args.reader.id.index) in
    let ws = row_of_values c.args.row.now.items in
    let r = bits_left c.read_bitmap.new.bits in
    let go : List Bool → List Bool → Reading (Taken Row) = λ q r. run_additions s l (run_value s l) cs c.args.steps.now q ws k n r in
    let e : onward (bitmap_from b) go ≡ go c.as_slice.result.now r = ap (λ o. onward o go) c.in-Ok.ensures.ok ∙ ap (λ q. go q r) (sym c.as_slice.ensures.value) in
    open_err_as c.read_additions.result (onward (bitmap_from b) go) (go c.as_slice.result.now r) (bits_left c.read_additions.new.bits) e c.read_additions.ensures.err

pub additions::read_extension-returns-clause-advanced : goal.additions::read_extension-returns-clause-advanced
additions::read_extension-returns-clause-advanced t c = open_went_on c.read_additions.result c.args.progress.now c.read_additions.new.progress (bits_left c.args.bits.now) (bits_left c.read_bitmap.new.bits) (bits_left c.read_additions.new.bits) c.in-Ok.ensures.shorter c.read_additions.ensures.advanced

pub components::read_fields-core-requires : goal.components::read_fields-core-requires
components::read_fields-core-requires t c = subst (λ q. c.args.reader.id.index < length q) (sym c.schema.ensures) c.requires.there

pub components::read_fields-read_row-requires : goal.components::read_fields-read_row-requires
components::read_fields-read_row-requires t c =
    let d = c.decreases in
    let lt : 30 * c.args.reader.levels + 27 < t = omega (arith, d) in
    let many : length c.in-Ok.row.items ≡ length (components (kind_at c.args.reader.code.now c.args.reader.id.index)) = c.in-Ok.ensures.length ∙ sym (components_many (components (kind_at c.args.reader.code.now c.args.reader.id.index)) (map component_of c.components_of-components.result.now) (length c.components_of-components.result.now) (components_are c.args.reader.code.now c.schema.result.now c.args.reader.id.index (kind_of c.core.result.now) c.core.ensures.is.0 (map component_of c.components_of-components.result.now) c.schema.ensures c.core.ensures.is.1 c.components_of-components.ensures) (map-length component_of c.components_of-components.result.now)) in
    (lt, (c.requires.few, (c.requires.room, (c.requires.fit, (many, c.in-Ok.ensures.row (components (kind_at c.args.reader.code.now c.args.reader.id.index)) (components_many (components (kind_at c.args.reader.code.now c.args.reader.id.index)) (map component_of c.components_of-components.result.now) (length c.components_of-components.result.now) (components_are c.args.reader.code.now c.schema.result.now c.args.reader.id.index (kind_of c.core.result.now) c.core.ensures.is.0 (map component_of c.components_of-components.result.now) c.schema.ensures c.core.ensures.is.1 c.components_of-components.ensures) (map-length component_of c.components_of-components.result.now)))))))

pub components::read_fields-returns-clause-ok : goal.components::read_fields-returns-clause-ok
components::read_fields-returns-clause-ok t c =
    ap (λ o. onward o (λ w r. read (as_fields w) r)) c.in-Ok-read_row.ensures.ok
    ∙ ap (λ q. read (taken q c.read_row.new.progress.skipped c.read_row.new.progress.left) (bits_left c.read_row.new.bits)) (sym (c.lemma_abstract_values.ensures.fields_ c.read_row.new.row))

pub components::read_fields-returns-clause-advanced : goal.components::read_fields-returns-clause-advanced
components::read_fields-returns-clause-advanced t c = c.in-Ok-read_row.ensures.advanced

pub additions::read_group-returns-in-Err-clause-err : goal.additions::read_group-returns-in-Err-clause-err
additions::read_group-returns-in-Err-clause-err t c =
    let s = c.args.reader.code.now in
    let l = c.args.reader.levels in
    let k = c.args.progress.now.skipped in
    let n = c.args.progress.now.left in
    let b = bits_left c.args.bits.now in
    let cs = components (kind_at s c.args.reader.id.index) in
    let ws = row_of_values c.args.row.now.items in
    open_none (run_group_inside s l (run_value s l) cs (fields_in c.args.steps.now) ws k n) b (bits_left c.take_octets.new.bits) c.in-Err.stop c.in-Err.ensures.err

pub additions::read_group-returns-in-Err-clause-places : goal.additions::read_group-returns-in-Err-clause-places
additions::read_group-returns-in-Err-clause-places t c = refl

pub additions::read_group-of-inner-requires : goal.additions::read_group-of-inner-requires
additions::read_group-of-inner-requires t c = octets_few c.args.progress.now (bits_left c.args.bits.now) (bits_left c.take_octets.new.bits) c.in-Ok.octets.items c.as_slice.result.now c.as_slice.ensures.value c.in-Ok.ensures.shorter c.requires.room

pub additions::read_group-read_group_members-requires : goal.additions::read_group-read_group_members-requires
additions::read_group-read_group_members-requires t c =
    let s = c.args.reader.code.now in
    let l = c.args.reader.levels in
    let k = c.args.progress.now.skipped in
    let n = c.args.progress.now.left in
    let b = bits_left c.args.bits.now in
    let r = bits_left c.take_octets.new.bits in
    let i = bits_left c.of-inner.result in
    let o = c.in-Ok.octets.items in
    let sl = c.as_slice.result.now in
    let h : Octets b r i o sl = record { is = c.of-inner.ensures; same = c.as_slice.ensures.value; shorter = c.in-Ok.ensures.shorter } in
    let lt : 30 * c.args.reader.levels + 22 < t = let d = c.decreases in omega (arith, d) in
    (lt, (c.requires.few, (inner_room c.args.progress.now b r i o sl h c.requires.room, (c.requires.fit, c.requires.places))))

pub additions::read_group-overflow_sub-all : goal.additions::read_group-overflow_sub-all
additions::read_group-overflow_sub-all t c =
    let s = c.args.reader.code.now in
    let l = c.args.reader.levels in
    let k = c.args.progress.now.skipped in
    let n = c.args.progress.now.left in
    let b = bits_left c.args.bits.now in
    let cs = components (kind_at s c.args.reader.id.index) in
    let ws = row_of_values c.args.row.now.items in
    let fs = fields_in c.args.steps.now in
    let f = run_group_inside s l (run_value s l) cs fs ws k n in
    let r = bits_left c.take_octets.new.bits in
    let i = bits_left c.of-inner.result in
    let o = c.in-Ok.octets.items in
    let sl = c.as_slice.result.now in
    let h : Octets b r i o sl = record { is = c.of-inner.ensures; same = c.as_slice.ensures.value; shorter = c.in-Ok.ensures.shorter } in
    let x = (c.inside_laws.ensures.group_read s l k n cs fs ws i (bits_left c.read_group_members.new.bits) (taken (row_of_values c.read_group_members.new.row.items) c.read_group_members.new.progress.skipped c.read_group_members.new.progress.left) c.lemma_invariant.ensures c.in-Ok-read_group_members.ensures.ok) in
    let y = left_in x.0 i (bits_left c.read_group_members.new.bits) x.1 in
    let z = c.len.ensures in
    let u = c.len-all.ensures in
    omega (arith, y, z, u)

pub additions::read_group-returns-then-fills-clause-ok : goal.additions::read_group-returns-then-fills-clause-ok
additions::read_group-returns-then-fills-clause-ok t c =
    let s = c.args.reader.code.now in
    let l = c.args.reader.levels in
    let k = c.args.progress.now.skipped in
    let n = c.args.progress.now.left in
    let b = bits_left c.args.bits.now in
    let cs = components (kind_at s c.args.reader.id.index) in
    let ws = row_of_values c.args.row.now.items in
    let fs = fields_in c.args.steps.now in
    let f = run_group_inside s l (run_value s l) cs fs ws k n in
    let r = bits_left c.take_octets.new.bits in
    let i = bits_left c.of-inner.result in
    let o = c.in-Ok.octets.items in
    let sl = c.as_slice.result.now in
    let h : Octets b r i o sl = record { is = c.of-inner.ensures; same = c.as_slice.ensures.value; shorter = c.in-Ok.ensures.shorter } in
    inner_good f b r i o sl h c.in-Ok.ensures.ok (bits_left c.read_group_members.new.bits) (taken (row_of_values c.read_group_members.new.row.items) c.read_group_members.new.progress.skipped c.read_group_members.new.progress.left) c.len-all.result c.len.result c.fills.result c.in-Ok-read_group_members.ensures.ok c.len-all.ensures c.len.ensures c.fills.ensures c.if-fills.true

pub additions::read_group-returns-then-fills-clause-advanced : goal.additions::read_group-returns-then-fills-clause-advanced
additions::read_group-returns-then-fills-clause-advanced t c =
    let s = c.args.reader.code.now in
    let l = c.args.reader.levels in
    let k = c.args.progress.now.skipped in
    let n = c.args.progress.now.left in
    let b = bits_left c.args.bits.now in
    let r = bits_left c.take_octets.new.bits in
    let i = bits_left c.of-inner.result in
    let o = c.in-Ok.octets.items in
    let sl = c.as_slice.result.now in
    let h : Octets b r i o sl = record { is = c.of-inner.ensures; same = c.as_slice.ensures.value; shorter = c.in-Ok.ensures.shorter } in
    inner_went c.args.progress.now c.read_group_members.new.progress b r i (bits_left c.read_group_members.new.bits) o sl h c.in-Ok-read_group_members.ensures.advanced

pub additions::read_group-returns-then-fills-clause-places : goal.additions::read_group-returns-then-fills-clause-places
additions::read_group-returns-then-fills-clause-places t c = c.read_group_members.ensures.places

pub additions::read_group-fault_place-requires : goal.additions::read_group-fault_place-requires
additions::read_group-fault_place-requires t c =
    let s = c.args.reader.code.now in
    let l = c.args.reader.levels in
    let k = c.args.progress.now.skipped in
    let n = c.args.progress.now.left in
    let b = bits_left c.args.bits.now in
    let r = bits_left c.take_octets.new.bits in
    let i = bits_left c.of-inner.result in
    let o = c.in-Ok.octets.items in
    let sl = c.as_slice.result.now in
    let h : Octets b r i o sl = record { is = c.of-inner.ensures; same = c.as_slice.ensures.value; shorter = c.in-Ok.ensures.shorter } in
    place_room b r i o sl c.len-all.result c.len-2.result c.min-left.result h c.len-all.ensures c.min-left.ensures

pub additions::read_group-returns-clause-err : goal.additions::read_group-returns-clause-err
additions::read_group-returns-clause-err t c =
    let s = c.args.reader.code.now in
    let l = c.args.reader.levels in
    let k = c.args.progress.now.skipped in
    let n = c.args.progress.now.left in
    let b = bits_left c.args.bits.now in
    let cs = components (kind_at s c.args.reader.id.index) in
    let ws = row_of_values c.args.row.now.items in
    let fs = fields_in c.args.steps.now in
    let f = run_group_inside s l (run_value s l) cs fs ws k n in
    let r = bits_left c.take_octets.new.bits in
    let i = bits_left c.of-inner.result in
    let o = c.in-Ok.octets.items in
    let sl = c.as_slice.result.now in
    let h : Octets b r i o sl = record { is = c.of-inner.ensures; same = c.as_slice.ensures.value; shorter = c.in-Ok.ensures.shorter } in
    let z = bits_left c.read_group_members.new.bits in
    let p = bits_left c.fault_place.result in
    let y = c.match-read_group_members.stop in
    elim c.match-read_group_members.branch [
      | goal.additions::read_group-in-Ok-read_group_members+else-fills w ↦ inner_bad f b r i o sl h c.in-Ok.ensures.ok z p (taken (row_of_values c.read_group_members.new.row.items) c.read_group_members.new.progress.skipped c.read_group_members.new.progress.left) c.len-all.result w.len.result c.len-2.result c.len-3.result c.min-left.result w.fills.result w.at-stop.result y
          (λ v. c.inside_laws.ensures.group_read s l k n cs fs ws i z v c.lemma_invariant.ensures) w.in-Ok-read_group_members.ensures.ok c.len-all.ensures w.len.ensures w.fills.ensures w.if-fills.false w.at-stop.ensures w.stop-is (c.len-3.ensures ∙ c.in-Ok.octets.ok.0) c.len-2.ensures c.min-left.ensures c.fault_place.ensures
      | goal.additions::read_group-in-Err-read_group_members w ↦ inner_stop f b r i o sl h c.in-Ok.ensures.ok z p c.len-all.result c.len-2.result c.len-3.result c.min-left.result w.in-Err-read_group_members.stop y
          (λ d. c.inside_laws.ensures.group_refused s l k n cs fs ws i z d c.lemma_invariant.ensures) w.in-Err-read_group_members.ensures.err c.len-all.ensures w.stop-is (c.len-3.ensures ∙ c.in-Ok.octets.ok.0) c.len-2.ensures c.min-left.ensures c.fault_place.ensures
    ]

pub additions::read_group-returns-clause-places : goal.additions::read_group-returns-clause-places
additions::read_group-returns-clause-places t c = c.read_group_members.ensures.places

pub additions::read_group_members-returns-in-Err-clause-err :
    goal.additions::read_group_members-returns-in-Err-clause-err
additions::read_group_members-returns-in-Err-clause-err t c =
    let s = c.args.reader.code.now in
    let l = c.args.reader.levels in
    let k = c.args.progress.now.skipped in
    let n = c.args.progress.now.left in
    let b = bits_left c.args.bits.now in
    let cs = components (kind_at s c.args.reader.id.index) in
    let ws = row_of_values c.args.row.now.items in
    let fs = fields_in c.args.steps.now in
    let r = bits_left c.read_presences.new.bits in
    let go : List Sent → Bits → Reading (Taken Row) = λ xs r. run_members s l (run_value s l) cs xs ws k n r in
    stop_sent fs b r [] go c.in-Err.stop c.in-Err.ensures.err

pub additions::read_group_members-returns-in-Err-clause-places :
    goal.additions::read_group_members-returns-in-Err-clause-places
additions::read_group_members-returns-in-Err-clause-places t c = refl

pub additions::read_group_members-returns-then-not-any_sent-clause-err :
    goal.additions::read_group_members-returns-then-not-any_sent-clause-err
additions::read_group_members-returns-then-not-any_sent-clause-err t c =
    let s = c.args.reader.code.now in
    let l = c.args.reader.levels in
    let k = c.args.progress.now.skipped in
    let n = c.args.progress.now.left in
    let b = bits_left c.args.bits.now in
    let cs = components (kind_at s c.args.reader.id.index) in
    let ws = row_of_values c.args.row.now.items in
    let fs = fields_in c.args.steps.now in
    let r = bits_left c.read_presences.new.bits in
    let go : List Sent → Bits → Reading (Taken Row) = λ xs r. run_members s l (run_value s l) cs xs ws k n r in
    stop_at (run_group_inside s l (run_value s l) cs fs ws k n b) NotCanonical c.at.result b
    (none_sent fs b r c.in-Ok.sent.items go c.in-Ok.ensures.ok (ap any_sent (sym c.as_slice.ensures.value) ∙ sym c.any_sent.ensures ∙ c.if-not-any_sent.true)) c.at.ensures

pub additions::read_group_members-returns-then-not-any_sent-clause-places :
    goal.additions::read_group_members-returns-then-not-any_sent-clause-places
additions::read_group_members-returns-then-not-any_sent-clause-places t c = refl

pub additions::read_group_members-read_members-requires : goal.additions::read_group_members-read_members-requires
additions::read_group_members-read_members-requires t c =
    let s = c.args.reader.code.now in
    let u = c.args.reader.id.index in
    let lt : 30 * c.args.reader.levels + 20 < t = let d = c.decreases in omega (arith, d) in (
      lt,
      (
        c.requires.few,
        (
          room_shorter c.args.progress.now (bits_left c.args.bits.now) (bits_left c.read_presences.new.bits) c.requires.room c.in-Ok.ensures.shorter,
          (
            are_sent s u c.args.steps.now c.in-Ok.sent.items c.as_slice-2.result.now c.requires.fit c.in-Ok.ensures.fields c.as_slice-2.ensures.value,
            c.requires.places,
          ),
        ),
      ),
    )

pub additions::read_group_members-returns-clause-ok : goal.additions::read_group_members-returns-clause-ok
additions::read_group_members-returns-clause-ok t c =
    let s = c.args.reader.code.now in
    let l = c.args.reader.levels in
    let k = c.args.progress.now.skipped in
    let n = c.args.progress.now.left in
    let b = bits_left c.args.bits.now in
    let cs = components (kind_at s c.args.reader.id.index) in
    let ws = row_of_values c.args.row.now.items in
    let fs = fields_in c.args.steps.now in
    let r = bits_left c.read_presences.new.bits in
    let go : List Sent → Bits → Reading (Taken Row) = λ xs r. run_members s l (run_value s l) cs xs ws k n r in
    let e : run_group_inside s l (run_value s l) cs fs ws k n b ≡ go c.as_slice-2.result.now r
    = some_sent fs b r c.in-Ok.sent.items go c.in-Ok.ensures.ok (ap any_sent (sym c.as_slice.ensures.value) ∙ sym c.any_sent.ensures ∙ c.if-not-any_sent.false) ∙ ap (λ xs. go xs r) (sym c.as_slice-2.ensures.value) in
    open_ok_as c.read_members.result (run_group_inside s l (run_value s l) cs fs ws k n b) (go c.as_slice-2.result.now r) (taken (row_of_values c.read_members.new.row.items) c.read_members.new.progress.skipped c.read_members.new.progress.left) (bits_left c.read_members.new.bits) e c.read_members.ensures.ok

pub additions::read_group_members-returns-clause-err : goal.additions::read_group_members-returns-clause-err
additions::read_group_members-returns-clause-err t c =
    let s = c.args.reader.code.now in
    let l = c.args.reader.levels in
    let k = c.args.progress.now.skipped in
    let n = c.args.progress.now.left in
    let b = bits_left c.args.bits.now in
    let cs = components (kind_at s c.args.reader.id.index) in
    let ws = row_of_values c.args.row.now.items in
    let fs = fields_in c.args.steps.now in
    let r = bits_left c.read_presences.new.bits in
    let go : List Sent → Bits → Reading (Taken Row) = λ xs r. run_members s l (run_value s l) cs xs ws k n r in
    let e : run_group_inside s l (run_value s l) cs fs ws k n b ≡ go c.as_slice-2.result.now r
    = some_sent fs b r c.in-Ok.sent.items go c.in-Ok.ensures.ok (ap any_sent (sym c.as_slice.ensures.value) ∙ sym c.any_sent.ensures ∙ c.if-not-any_sent.false) ∙ ap (λ xs. go xs r) (sym c.as_slice-2.ensures.value) in
    open_err_as c.read_members.result (run_group_inside s l (run_value s l) cs fs ws k n b) (go c.as_slice-2.result.now r) (bits_left c.read_members.new.bits) e c.read_members.ensures.err

pub additions::read_group_members-returns-clause-advanced : goal.additions::read_group_members-returns-clause-advanced
additions::read_group_members-returns-clause-advanced t c = open_went_on c.read_members.result c.args.progress.now c.read_members.new.progress (bits_left c.args.bits.now) (bits_left c.read_presences.new.bits) (bits_left c.read_members.new.bits) c.in-Ok.ensures.shorter c.read_members.ensures.advanced

pub additions::read_group_members-returns-clause-places : goal.additions::read_group_members-returns-clause-places
additions::read_group_members-returns-clause-places t c = c.read_members.ensures.places

pub elements::read_list-read_size-requires : goal.elements::read_list-read_size-requires
elements::read_list-read_size-requires t c = c.requires.bounds

pub elements::read_list-read_elements-requires : goal.elements::read_list-read_elements-requires
elements::read_list-read_elements-requires t c =
    let lt : 30 * c.args.reader.levels + 24 < t = let d = c.decreases in omega (arith, d) in
    let s = reading_shorter (c.count_laws.ensures.size (constraint_of c.args.listed.constraint.now) c.requires.bounds) (bits_left c.args.bits.now) (bits_left c.read_size.new.bits) c.in-Ok-AtOnce.field-0 c.in-Ok-AtOnce.ensures in
    (lt, (c.requires.few, room_before c.args.progress.now (bits_left c.args.bits.now) (bits_left c.read_size.new.bits) s c.requires.room))

pub elements::read_list-read_parts-requires : goal.elements::read_list-read_parts-requires
elements::read_list-read_parts-requires t c =
    let lt : 30 * c.args.reader.levels + 26 < t = let d = c.decreases in omega (arith, d) in
    let s = reading_shorter (c.count_laws.ensures.size (constraint_of c.args.listed.constraint.now) c.requires.bounds) (bits_left c.args.bits.now) (bits_left c.read_size.new.bits) c.in-Ok-Counted.field-0 c.in-Ok-Counted.ensures in
    (lt, (c.requires.few, room_before c.args.progress.now (bits_left c.args.bits.now) (bits_left c.read_size.new.bits) s c.requires.room))

pub elements::read_list-returns-in-Ok-AtOnce-clause-ok : goal.elements::read_list-returns-in-Ok-AtOnce-clause-ok
elements::read_list-returns-in-Ok-AtOnce-clause-ok t c =
    let value = run_value c.args.reader.code.now c.args.reader.levels c.args.reader.id.index in
    let k = constraint_of c.args.listed.constraint.now in
    let es = gathered c.args.list.now in
    let p = c.args.progress.now in
    let b = bits_left c.args.bits.now in
    let r = bits_left c.read_size.new.bits in
    let e = c.in-Ok-AtOnce.ensures ∙ ap (λ q. found q (bits_left c.read_size.new.bits)) c.in-Ok-AtOnce.field-0-is in
    let w = list_at_once value c.args.listed.sorted k es c.requires.none p.skipped p.left b r c.in-Ok-AtOnce.count e in
    returned_as (run_list value c.args.listed.sorted k p.skipped p.left b) (run_elements value c.args.listed.sorted c.in-Ok-AtOnce.count es p.skipped p.left r) w
    (read (taken (gathered c.read_elements.new.list) c.read_elements.new.progress.skipped c.read_elements.new.progress.left) (bits_left c.read_elements.new.bits)) c.read_elements.result c.read_elements.ensures.ok

pub elements::read_list-returns-in-Ok-AtOnce-clause-err : goal.elements::read_list-returns-in-Ok-AtOnce-clause-err
elements::read_list-returns-in-Ok-AtOnce-clause-err t c =
    let value = run_value c.args.reader.code.now c.args.reader.levels c.args.reader.id.index in
    let k = constraint_of c.args.listed.constraint.now in
    let es = gathered c.args.list.now in
    let p = c.args.progress.now in
    let b = bits_left c.args.bits.now in
    let r = bits_left c.read_size.new.bits in
    let e = c.in-Ok-AtOnce.ensures ∙ ap (λ q. found q (bits_left c.read_size.new.bits)) c.in-Ok-AtOnce.field-0-is in
    let w = list_at_once value c.args.listed.sorted k es c.requires.none p.skipped p.left b r c.in-Ok-AtOnce.count e in
    refused_as (run_list value c.args.listed.sorted k p.skipped p.left b) (run_elements value c.args.listed.sorted c.in-Ok-AtOnce.count es p.skipped p.left r) w (bits_left c.read_elements.new.bits) c.read_elements.result c.read_elements.ensures.err

pub elements::read_list-returns-in-Ok-AtOnce-clause-advanced : goal.elements::read_list-returns-in-Ok-AtOnce-clause-advanced
elements::read_list-returns-in-Ok-AtOnce-clause-advanced t c =
    let s = reading_shorter (c.count_laws.ensures.size (constraint_of c.args.listed.constraint.now) c.requires.bounds) (bits_left c.args.bits.now) (bits_left c.read_size.new.bits) c.in-Ok-AtOnce.field-0 c.in-Ok-AtOnce.ensures in
    all_before c.args.progress.now c.read_elements.new.progress (bits_left c.args.bits.now) (bits_left c.read_size.new.bits) (bits_left c.read_elements.new.bits) c.read_elements.result s c.read_elements.ensures.advanced

pub elements::read_list-returns-in-Ok-Counted-clause-ok : goal.elements::read_list-returns-in-Ok-Counted-clause-ok
elements::read_list-returns-in-Ok-Counted-clause-ok t c =
    let value = run_value c.args.reader.code.now c.args.reader.levels c.args.reader.id.index in
    let k = constraint_of c.args.listed.constraint.now in
    let es = gathered c.args.list.now in
    let p = c.args.progress.now in
    let b = bits_left c.args.bits.now in
    let r = bits_left c.read_size.new.bits in
    let e = c.in-Ok-Counted.ensures ∙ ap (λ q. found q (bits_left c.read_size.new.bits)) c.in-Ok-Counted.field-0-is in
    let w = list_counted value c.args.listed.sorted k es c.requires.none p.skipped p.left b r c.in-Ok-Counted.outside e in
    returned_as (run_list value c.args.listed.sorted k p.skipped p.left b) (run_parts value c.args.listed.sorted (size_fault k c.in-Ok-Counted.outside) (suc p.left) true es p.skipped p.left r) w
    (read (taken (gathered c.read_parts.new.list) c.read_parts.new.progress.skipped c.read_parts.new.progress.left) (bits_left c.read_parts.new.bits)) c.read_parts.result c.read_parts.ensures.ok

pub elements::read_list-returns-in-Ok-Counted-clause-err : goal.elements::read_list-returns-in-Ok-Counted-clause-err
elements::read_list-returns-in-Ok-Counted-clause-err t c =
    let value = run_value c.args.reader.code.now c.args.reader.levels c.args.reader.id.index in
    let k = constraint_of c.args.listed.constraint.now in
    let es = gathered c.args.list.now in
    let p = c.args.progress.now in
    let b = bits_left c.args.bits.now in
    let r = bits_left c.read_size.new.bits in
    let e = c.in-Ok-Counted.ensures ∙ ap (λ q. found q (bits_left c.read_size.new.bits)) c.in-Ok-Counted.field-0-is in
    let w = list_counted value c.args.listed.sorted k es c.requires.none p.skipped p.left b r c.in-Ok-Counted.outside e in
    refused_as (run_list value c.args.listed.sorted k p.skipped p.left b) (run_parts value c.args.listed.sorted (size_fault k c.in-Ok-Counted.outside) (suc p.left) true es p.skipped p.left r) w (bits_left c.read_parts.new.bits) c.read_parts.result c.read_parts.ensures.err

pub elements::read_list-returns-in-Ok-Counted-clause-advanced : goal.elements::read_list-returns-in-Ok-Counted-clause-advanced
elements::read_list-returns-in-Ok-Counted-clause-advanced t c =
    let s = reading_shorter (c.count_laws.ensures.size (constraint_of c.args.listed.constraint.now) c.requires.bounds) (bits_left c.args.bits.now) (bits_left c.read_size.new.bits) c.in-Ok-Counted.field-0 c.in-Ok-Counted.ensures in
    all_before c.args.progress.now c.read_parts.new.progress (bits_left c.args.bits.now) (bits_left c.read_size.new.bits) (bits_left c.read_parts.new.bits) c.read_parts.result s c.read_parts.ensures.advanced

pub elements::read_list-returns-in-Err-clause-err : goal.elements::read_list-returns-in-Err-clause-err
elements::read_list-returns-in-Err-clause-err t c =
    list_stops (run_value c.args.reader.code.now c.args.reader.levels c.args.reader.id.index) c.args.listed.sorted (constraint_of c.args.listed.constraint.now) c.args.progress.now.skipped c.args.progress.now.left (bits_left c.args.bits.now) (bits_left c.read_size.new.bits)
    c.in-Err.refusal c.at.result c.in-Err.ensures c.at.ensures

pub components::read_member-read_present-requires : goal.components::read_member-read_present-requires
components::read_member-read_present-requires t c =
    let d = c.decreases in
    let lt : 30 * c.args.reader.levels + 18 < t = omega (arith, d) in
    (lt, (c.requires.few, (c.requires.room, (c.requires.fits, c.requires.places))))

pub components::read_member-returns-then-sent-clause-ok : goal.components::read_member-returns-then-sent-clause-ok
components::read_member-returns-then-sent-clause-ok t c = row_as c.read_present.result (run_member c.args.reader.code.now c.args.reader.levels (run_value c.args.reader.code.now c.args.reader.levels) (components (kind_at c.args.reader.code.now c.args.reader.id.index)) c.args.sent (row_of_values c.args.row.now.items) c.args.progress.now.skipped c.args.progress.now.left (bits_left c.args.bits.now)) (run_present c.args.reader.code.now (run_value c.args.reader.code.now c.args.reader.levels) (components (kind_at c.args.reader.code.now c.args.reader.id.index)) c.args.sent.field (row_of_values c.args.row.now.items) c.args.progress.now.skipped c.args.progress.now.left (bits_left c.args.bits.now)) (row_of_values c.read_present.new.row.items) c.read_present.new.progress (bits_left c.read_present.new.bits) (member_present c.args.reader.code.now c.args.reader.levels (components (kind_at c.args.reader.code.now c.args.reader.id.index)) c.args.sent (row_of_values c.args.row.now.items) c.args.progress.now.skipped c.args.progress.now.left (bits_left c.args.bits.now) c.if-sent.true) c.read_present.ensures.ok

pub components::read_member-returns-then-sent-clause-err : goal.components::read_member-returns-then-sent-clause-err
components::read_member-returns-then-sent-clause-err t c = stops_as c.read_present.result (run_member c.args.reader.code.now c.args.reader.levels (run_value c.args.reader.code.now c.args.reader.levels) (components (kind_at c.args.reader.code.now c.args.reader.id.index)) c.args.sent (row_of_values c.args.row.now.items) c.args.progress.now.skipped c.args.progress.now.left (bits_left c.args.bits.now)) (run_present c.args.reader.code.now (run_value c.args.reader.code.now c.args.reader.levels) (components (kind_at c.args.reader.code.now c.args.reader.id.index)) c.args.sent.field (row_of_values c.args.row.now.items) c.args.progress.now.skipped c.args.progress.now.left (bits_left c.args.bits.now)) (bits_left c.read_present.new.bits) (member_present c.args.reader.code.now c.args.reader.levels (components (kind_at c.args.reader.code.now c.args.reader.id.index)) c.args.sent (row_of_values c.args.row.now.items) c.args.progress.now.skipped c.args.progress.now.left (bits_left c.args.bits.now) c.if-sent.true) c.read_present.ensures.err

pub components::read_member-returns-then-sent-clause-advanced : goal.components::read_member-returns-then-sent-clause-advanced
components::read_member-returns-then-sent-clause-advanced t c = c.read_present.ensures.advanced

pub components::read_member-returns-then-sent-clause-places : goal.components::read_member-returns-then-sent-clause-places
components::read_member-returns-then-sent-clause-places t c = c.read_present.ensures.places

pub components::read_member-may_lack-requires-clause-there : goal.components::read_member-may_lack-requires-clause-there
components::read_member-may_lack-requires-clause-there t c = (c.requires.fits.component, c.requires.fits.there)

pub components::read_member-may_lack-requires-clause-few : goal.components::read_member-may_lack-requires-clause-few
components::read_member-may_lack-requires-clause-few t c = c.requires.few

pub components::read_member-returns-then-may_lack-clause-ok : goal.components::read_member-returns-then-may_lack-clause-ok
components::read_member-returns-then-may_lack-clause-ok t c = member_absent c.args.reader.code.now c.args.reader.levels (components (kind_at c.args.reader.code.now c.args.reader.id.index)) c.args.sent (row_of_values c.args.row.now.items) c.args.progress.now.skipped c.args.progress.now.left (bits_left c.args.bits.now) c.if-sent.false ∙ absent_ok c.args.reader.code.now c.args.reader.levels (components (kind_at c.args.reader.code.now c.args.reader.id.index)) c.args.sent.field (row_of_values c.args.row.now.items) c.args.progress.now.skipped c.args.progress.now.left (bits_left c.args.bits.now) c.requires.fits.component c.may_lack.result c.requires.fits.there (c.may_lack.ensures c.requires.fits.component c.requires.fits.there) c.if-may_lack.true

pub components::read_member-returns-then-may_lack-clause-advanced : goal.components::read_member-returns-then-may_lack-clause-advanced
components::read_member-returns-then-may_lack-clause-advanced t c = went_same c.args.progress.now (bits_left c.args.bits.now)

pub components::read_member-returns-then-may_lack-clause-places : goal.components::read_member-returns-then-may_lack-clause-places
components::read_member-returns-then-may_lack-clause-places t c = refl

pub components::read_member-returns-clause-err : goal.components::read_member-returns-clause-err
components::read_member-returns-clause-err t c =
    stop_as (run_member c.args.reader.code.now c.args.reader.levels (run_value c.args.reader.code.now c.args.reader.levels) (components (kind_at c.args.reader.code.now c.args.reader.id.index)) c.args.sent (row_of_values c.args.row.now.items) c.args.progress.now.skipped c.args.progress.now.left (bits_left c.args.bits.now)) (run_absent c.args.reader.code.now c.args.reader.levels (components (kind_at c.args.reader.code.now c.args.reader.id.index)) c.args.sent.field (row_of_values c.args.row.now.items) c.args.progress.now.skipped c.args.progress.now.left (bits_left c.args.bits.now)) c.within.result (bits_left c.args.bits.now) (member_absent c.args.reader.code.now c.args.reader.levels (components (kind_at c.args.reader.code.now c.args.reader.id.index)) c.args.sent (row_of_values c.args.row.now.items) c.args.progress.now.skipped c.args.progress.now.left (bits_left c.args.bits.now) c.if-sent.false)
    (absent_deep c.args.reader.code.now c.args.reader.levels (components (kind_at c.args.reader.code.now c.args.reader.id.index)) c.args.sent.field (row_of_values c.args.row.now.items) c.args.progress.now.skipped c.args.progress.now.left (bits_left c.args.bits.now) c.requires.fits.component c.may_lack.result c.at-stop.result c.within.result c.requires.fits.there (c.may_lack.ensures c.requires.fits.component c.requires.fits.there) c.if-may_lack.false c.at-stop.ensures c.within.ensures)

pub components::read_member-returns-clause-places : goal.components::read_member-returns-clause-places
components::read_member-returns-clause-places t c = refl

pub components::read_members-loop-i-init : goal.components::read_members-loop-i-init
components::read_members-loop-i-init t c = (refl, went_same c.args.progress.now (bits_left c.args.bits.now), refl)

pub components::read_members-bounds-sent-i : goal.components::read_members-bounds-sent-i
components::read_members-bounds-sent-i t c = c.loop-i-test.true

pub components::read_members-read_member-requires : goal.components::read_members-read_member-requires
components::read_members-read_member-requires t c =
    let d = c.decreases in
    let lt : 30 * c.args.reader.levels + 19 < t = omega (arith, d) in
    (lt, (c.requires.few, (room_left c.args.progress.now c.loop-i.progress (bits_left c.args.bits.now) (bits_left c.loop-i.bits) c.requires.room c.loop-i.invariant.1, (sent_there c.args.reader.code.now c.args.reader.id.index c.args.sent.now c.loop-i.i _ c.requires.fit (drop_more c.args.sent.now c.loop-i.i _ c.loop-i-test.true), c.loop-i.invariant.2 ∙ c.requires.places))))

pub components::read_members-returns-in-Err-clause-err : goal.components::read_members-returns-in-Err-clause-err
components::read_members-returns-in-Err-clause-err t c = members_stop c.args.reader.code.now c.args.reader.levels (components (kind_at c.args.reader.code.now c.args.reader.id.index)) c.args.sent.now c.loop-i.i _ (row_of_values c.loop-i.row.items) c.loop-i.progress.skipped c.loop-i.progress.left (bits_left c.loop-i.bits) (drop_more c.args.sent.now c.loop-i.i _ c.loop-i-test.true) (run_members c.args.reader.code.now c.args.reader.levels (run_value c.args.reader.code.now c.args.reader.levels) (components (kind_at c.args.reader.code.now c.args.reader.id.index)) c.args.sent.now (row_of_values c.args.row.now.items) c.args.progress.now.skipped c.args.progress.now.left (bits_left c.args.bits.now)) c.in-Err.stop (bits_left c.read_member.new.bits) c.loop-i.invariant.0 c.in-Err.ensures.err

pub components::read_members-returns-in-Err-clause-places : goal.components::read_members-returns-in-Err-clause-places
components::read_members-returns-in-Err-clause-places t c = c.in-Err.ensures.places ∙ c.loop-i.invariant.2

pub components::read_members-loop-i-preserved : goal.components::read_members-loop-i-preserved
components::read_members-loop-i-preserved t c = (
  members_next c.args.reader.code.now c.args.reader.levels (components (kind_at c.args.reader.code.now c.args.reader.id.index)) c.args.sent.now c.loop-i.i _ (row_of_values c.loop-i.row.items) c.loop-i.progress.skipped c.loop-i.progress.left (bits_left c.loop-i.bits) (drop_more c.args.sent.now c.loop-i.i _ c.loop-i-test.true) (run_members c.args.reader.code.now c.args.reader.levels (run_value c.args.reader.code.now c.args.reader.levels) (components (kind_at c.args.reader.code.now c.args.reader.id.index)) c.args.sent.now (row_of_values c.args.row.now.items) c.args.progress.now.skipped c.args.progress.now.left (bits_left c.args.bits.now)) (row_of_values c.read_member.new.row.items) c.read_member.new.progress.skipped c.read_member.new.progress.left (bits_left c.read_member.new.bits) c.loop-i.invariant.0 c.in-Ok.ensures.ok,
  both_went c.args.progress.now c.loop-i.progress c.read_member.new.progress (bits_left c.args.bits.now) (bits_left c.loop-i.bits) (bits_left c.read_member.new.bits) c.loop-i.invariant.1 c.in-Ok.ensures.advanced,
  c.in-Ok.ensures.places ∙ c.loop-i.invariant.2,
)

pub components::read_members-returns-clause-ok : goal.components::read_members-returns-clause-ok
components::read_members-returns-clause-ok t c = members_end c.args.reader.code.now c.args.reader.levels (components (kind_at c.args.reader.code.now c.args.reader.id.index)) c.args.sent.now c.loop-i.i (row_of_values c.loop-i.row.items) c.loop-i.progress.skipped c.loop-i.progress.left (bits_left c.loop-i.bits) (run_members c.args.reader.code.now c.args.reader.levels (run_value c.args.reader.code.now c.args.reader.levels) (components (kind_at c.args.reader.code.now c.args.reader.id.index)) c.args.sent.now (row_of_values c.args.row.now.items) c.args.progress.now.skipped c.args.progress.now.left (bits_left c.args.bits.now)) (let h = c.loop-i-test.false in omega (arith, h)) c.loop-i.invariant.0

pub components::read_members-returns-clause-advanced : goal.components::read_members-returns-clause-advanced
components::read_members-returns-clause-advanced t c = c.loop-i.invariant.1

pub components::read_members-returns-clause-places : goal.components::read_members-returns-clause-places
components::read_members-returns-clause-places t c = c.loop-i.invariant.2

pub value::read_opened-returns-in-Err-clause-err : goal.value::read_opened-returns-in-Err-clause-err
value::read_opened-returns-in-Err-clause-err t c =
    let s = c.args.reader.code.now in
    let l = c.args.reader.levels in
    let k = c.args.progress.now.skipped in
    let n = c.args.progress.now.left in
    let b = bits_left c.args.bits.now in
    open_none (run_value s l c.args.reader.id.index k n) b (bits_left c.take_octets.new.bits) c.in-Err.stop c.in-Err.ensures.err

pub value::read_opened-of-inner-requires : goal.value::read_opened-of-inner-requires
value::read_opened-of-inner-requires t c = octets_few c.args.progress.now (bits_left c.args.bits.now) (bits_left c.take_octets.new.bits) c.in-Ok.octets.items c.as_slice.result.now c.as_slice.ensures.value c.in-Ok.ensures.shorter c.requires.room

pub value::read_opened-read_value-requires : goal.value::read_opened-read_value-requires
value::read_opened-read_value-requires t c =
    let s = c.args.reader.code.now in
    let l = c.args.reader.levels in
    let k = c.args.progress.now.skipped in
    let n = c.args.progress.now.left in
    let b = bits_left c.args.bits.now in
    let r = bits_left c.take_octets.new.bits in
    let i = bits_left c.of-inner.result in
    let o = c.in-Ok.octets.items in
    let sl = c.as_slice.result.now in
    let h : Octets b r i o sl = record { is = c.of-inner.ensures; same = c.as_slice.ensures.value; shorter = c.in-Ok.ensures.shorter } in
    let lt : 30 * c.args.reader.levels + 1 < t = let d = c.decreases in omega (arith, d) in
    let few : c.args.reader.levels ≤ 64 = let m = c.requires.few in omega (arith, m) in
    (lt, (few, inner_room c.args.progress.now b r i o sl h c.requires.room))

pub value::read_opened-overflow_sub-all : goal.value::read_opened-overflow_sub-all
value::read_opened-overflow_sub-all t c =
    let s = c.args.reader.code.now in
    let l = c.args.reader.levels in
    let k = c.args.progress.now.skipped in
    let n = c.args.progress.now.left in
    let b = bits_left c.args.bits.now in
    let f = run_value s l c.args.reader.id.index k n in
    let r = bits_left c.take_octets.new.bits in
    let i = bits_left c.of-inner.result in
    let o = c.in-Ok.octets.items in
    let sl = c.as_slice.result.now in
    let h : Octets b r i o sl = record { is = c.of-inner.ensures; same = c.as_slice.ensures.value; shorter = c.in-Ok.ensures.shorter } in
    let x = (c.inside_laws.ensures.value_read s l c.args.reader.id.index k n i (bits_left c.read_value.new.bits) (taken (abstract c.in-Ok-read_value.value) c.read_value.new.progress.skipped c.read_value.new.progress.left) c.lemma_invariant.ensures c.in-Ok-read_value.ensures.ok) in
    let y = left_in x.0 i (bits_left c.read_value.new.bits) x.1 in
    let z = c.len.ensures in
    let u = c.len-all.ensures in
    omega (arith, y, z, u)

pub value::read_opened-returns-then-fills-clause-ok : goal.value::read_opened-returns-then-fills-clause-ok
value::read_opened-returns-then-fills-clause-ok t c =
    let s = c.args.reader.code.now in
    let l = c.args.reader.levels in
    let k = c.args.progress.now.skipped in
    let n = c.args.progress.now.left in
    let b = bits_left c.args.bits.now in
    let f = run_value s l c.args.reader.id.index k n in
    let r = bits_left c.take_octets.new.bits in
    let i = bits_left c.of-inner.result in
    let o = c.in-Ok.octets.items in
    let sl = c.as_slice.result.now in
    let h : Octets b r i o sl = record { is = c.of-inner.ensures; same = c.as_slice.ensures.value; shorter = c.in-Ok.ensures.shorter } in
    inner_good f b r i o sl h c.in-Ok.ensures.ok (bits_left c.read_value.new.bits) (taken (abstract c.in-Ok-read_value.value) c.read_value.new.progress.skipped c.read_value.new.progress.left) c.len-all.result c.len.result c.fills.result c.in-Ok-read_value.ensures.ok c.len-all.ensures c.len.ensures c.fills.ensures c.if-fills.true

pub value::read_opened-returns-then-fills-clause-advanced : goal.value::read_opened-returns-then-fills-clause-advanced
value::read_opened-returns-then-fills-clause-advanced t c =
    let s = c.args.reader.code.now in
    let l = c.args.reader.levels in
    let k = c.args.progress.now.skipped in
    let n = c.args.progress.now.left in
    let b = bits_left c.args.bits.now in
    let r = bits_left c.take_octets.new.bits in
    let i = bits_left c.of-inner.result in
    let o = c.in-Ok.octets.items in
    let sl = c.as_slice.result.now in
    let h : Octets b r i o sl = record { is = c.of-inner.ensures; same = c.as_slice.ensures.value; shorter = c.in-Ok.ensures.shorter } in
    inner_went c.args.progress.now c.read_value.new.progress b r i (bits_left c.read_value.new.bits) o sl h c.in-Ok-read_value.ensures.advanced

pub value::read_opened-fault_place-requires : goal.value::read_opened-fault_place-requires
value::read_opened-fault_place-requires t c =
    let s = c.args.reader.code.now in
    let l = c.args.reader.levels in
    let k = c.args.progress.now.skipped in
    let n = c.args.progress.now.left in
    let b = bits_left c.args.bits.now in
    let r = bits_left c.take_octets.new.bits in
    let i = bits_left c.of-inner.result in
    let o = c.in-Ok.octets.items in
    let sl = c.as_slice.result.now in
    let h : Octets b r i o sl = record { is = c.of-inner.ensures; same = c.as_slice.ensures.value; shorter = c.in-Ok.ensures.shorter } in
    place_room b r i o sl c.len-all.result c.len-2.result c.min-left.result h c.len-all.ensures c.min-left.ensures

pub value::read_opened-returns-clause-err : goal.value::read_opened-returns-clause-err
value::read_opened-returns-clause-err t c =
    let s = c.args.reader.code.now in
    let l = c.args.reader.levels in
    let k = c.args.progress.now.skipped in
    let n = c.args.progress.now.left in
    let b = bits_left c.args.bits.now in
    let f = run_value s l c.args.reader.id.index k n in
    let r = bits_left c.take_octets.new.bits in
    let i = bits_left c.of-inner.result in
    let o = c.in-Ok.octets.items in
    let sl = c.as_slice.result.now in
    let h : Octets b r i o sl = record { is = c.of-inner.ensures; same = c.as_slice.ensures.value; shorter = c.in-Ok.ensures.shorter } in
    let z = bits_left c.read_value.new.bits in
    let p = bits_left c.fault_place.result in
    let y = c.match-read_value.stop in
    let bad : (v : Taken AbstractValue) (a : ℕ) (t : Bool) (x : Stop) → f i ≡ read v z → a ≡ length z → t ≡ is_filling (c.len-all.result - a) z → t ≡ false → IsStopAt Padding x → y ≡ x → IsStop (open_from f b) y p
    = λ v a t x g e u w q j. inner_bad f b r i o sl h c.in-Ok.ensures.ok z p v c.len-all.result a c.len-2.result c.len-3.result c.min-left.result t x y
    (λ v. c.inside_laws.ensures.value_read s l c.args.reader.id.index k n i z v c.lemma_invariant.ensures) g c.len-all.ensures e u w q j (c.len-3.ensures ∙ c.in-Ok.octets.ok.0) c.len-2.ensures c.min-left.ensures c.fault_place.ensures in
    elim c.match-read_value.branch [
      | goal.value::read_opened-in-Ok-read_value+else-fills w ↦ bad (taken (abstract w.in-Ok-read_value.value) c.read_value.new.progress.skipped c.read_value.new.progress.left) w.len.result w.fills.result w.at-stop.result w.in-Ok-read_value.ensures.ok w.len.ensures w.fills.ensures w.if-fills.false w.at-stop.ensures w.stop-is
      | goal.value::read_opened-in-Err-read_value w ↦ inner_stop f b r i o sl h c.in-Ok.ensures.ok z p c.len-all.result c.len-2.result c.len-3.result c.min-left.result w.in-Err-read_value.stop y
          (λ d. c.inside_laws.ensures.value_refused s l c.args.reader.id.index k n i z d c.lemma_invariant.ensures) w.in-Err-read_value.ensures.err c.len-all.ensures w.stop-is (c.len-3.ensures ∙ c.in-Ok.octets.ok.0) c.len-2.ensures c.min-left.ensures c.fault_place.ensures
    ]

pub elements::read_part-overflow_cast-before : goal.elements::read_part-overflow_cast-before
elements::read_part-overflow_cast-before t c =
    let e = c.len-before.ensures in
    let l = c.args.list.now.values.ok.1 in
    let s = c.args.list.now.values.small in
    omega (arith, e, l, s)

pub elements::read_part-read_total-requires : goal.elements::read_part-read_total-requires
elements::read_part-read_total-requires t c =
    let e = c.len-before.ensures in
    let l = c.args.list.now.values.ok.1 in
    let s = c.args.list.now.values.small in
    omega (arith, e, l, s)

pub elements::read_part-read_elements-requires : goal.elements::read_part-read_elements-requires
elements::read_part-read_elements-requires t c =
    let lt : 30 * c.args.reader.levels + 24 < t = let d = c.decreases in omega (arith, d) in
    (lt, (c.requires.few, room_before c.args.progress.now (bits_left c.args.bits.now) (bits_left c.read_total.new.bits) c.in-Ok-Last.ensures.shorter c.requires.room))

pub elements::read_part-returns-in-Err-read_elements-clause-err :
    goal.elements::read_part-returns-in-Err-read_elements-clause-err
elements::read_part-returns-in-Err-read_elements-clause-err t c =
    λ f.
    let value = run_value c.args.reader.code.now c.args.reader.levels c.args.reader.id.index in
    let sorted = c.args.fragment.size.sorted in
    let test = size_fault (constraint_of c.args.fragment.size.constraint.now) c.args.fragment.size.outside in
    let full = c.args.fragment.full in
    let es = gathered c.args.list.now in
    let p = c.args.progress.now in
    let b = bits_left c.args.bits.now in
    let r = bits_left c.read_total.new.bits in
    let i : c.len-before.result ≡ length es.values = c.len-before.ensures ∙ c.args.list.now.values.ok.0 ∙ sym (length-map c.args.list.now.values.items abstract) in
    let e = stated_at test full c.len-before.result (length es.values) b r c.in-Ok-Last.field-0 (last c.in-Ok-Last.count) i c.in-Ok-Last.field-0-is c.in-Ok-Last.ensures.is in
    stop_last value sorted test f full es p.skipped p.left c.in-Ok-Last.count b r (bits_left c.read_elements.new.bits) c.in-Err-read_elements.stop e c.in-Err-read_elements.ensures.err

pub elements::read_part-overflow_mul-count : goal.elements::read_part-overflow_mul-count
elements::read_part-overflow_mul-count t c =
    let few = subst IsFewParts c.in-Ok-Part.field-0-is c.in-Ok-Part.ensures.few in
    let l = few.1 in
    omega (arith, l)

pub elements::read_part-read_elements-requires-in-Ok-Part : goal.elements::read_part-read_elements-requires-in-Ok-Part
elements::read_part-read_elements-requires-in-Ok-Part t c =
    let lt : 30 * c.args.reader.levels + 24 < t = let d = c.decreases in omega (arith, d) in
    (lt, (c.requires.few, room_before c.args.progress.now (bits_left c.args.bits.now) (bits_left c.read_total.new.bits) c.in-Ok-Part.ensures.shorter c.requires.room))

pub elements::read_part-returns-in-Err-read_elements-2-clause-err :
    goal.elements::read_part-returns-in-Err-read_elements-2-clause-err
elements::read_part-returns-in-Err-read_elements-2-clause-err t c =
    λ f.
    let value = run_value c.args.reader.code.now c.args.reader.levels c.args.reader.id.index in
    let sorted = c.args.fragment.size.sorted in
    let test = size_fault (constraint_of c.args.fragment.size.constraint.now) c.args.fragment.size.outside in
    let full = c.args.fragment.full in
    let es = gathered c.args.list.now in
    let p = c.args.progress.now in
    let b = bits_left c.args.bits.now in
    let r = bits_left c.read_total.new.bits in
    let i : c.len-before.result ≡ length es.values = c.len-before.ensures ∙ c.args.list.now.values.ok.0 ∙ sym (length-map c.args.list.now.values.items abstract) in
    let e = stated_at test full c.len-before.result (length es.values) b r c.in-Ok-Part.field-0 (part c.in-Ok-Part.times) i c.in-Ok-Part.field-0-is c.in-Ok-Part.ensures.is in
    stop_more value sorted test f full es p.skipped p.left c.in-Ok-Part.times b r (bits_left c.read_elements-in-Ok-Part.new.bits) c.in-Err-read_elements-2.stop e c.in-Err-read_elements-2.ensures.err

pub elements::read_part-returns-in-Ok-clause-ok : goal.elements::read_part-returns-in-Ok-clause-ok
elements::read_part-returns-in-Ok-clause-ok t c =
    λ f.
    let value = run_value c.args.reader.code.now c.args.reader.levels c.args.reader.id.index in
    let sorted = c.args.fragment.size.sorted in
    let test = size_fault (constraint_of c.args.fragment.size.constraint.now) c.args.fragment.size.outside in
    let full = c.args.fragment.full in
    let es = gathered c.args.list.now in
    let p = c.args.progress.now in
    let b = bits_left c.args.bits.now in
    let r = bits_left c.read_total.new.bits in
    let i : c.len-before.result ≡ length es.values = c.len-before.ensures ∙ c.args.list.now.values.ok.0 ∙ sym (length-map c.args.list.now.values.items abstract) in
    let e = stated_at test full c.len-before.result (length es.values) b r c.in-Ok-Last.field-0 (last c.in-Ok-Last.count) i c.in-Ok-Last.field-0-is c.in-Ok-Last.ensures.is in
    part_last value sorted test f full es (gathered c.read_elements.new.list) p.skipped p.left c.read_elements.new.progress.skipped c.read_elements.new.progress.left c.in-Ok-Last.count b r (bits_left c.read_elements.new.bits) e c.in-Ok.ensures.ok

pub elements::read_part-returns-in-Ok-clause-advanced : goal.elements::read_part-returns-in-Ok-clause-advanced
elements::read_part-returns-in-Ok-clause-advanced t c = went_before c.args.progress.now c.read_elements.new.progress (bits_left c.args.bits.now) (bits_left c.read_total.new.bits) (bits_left c.read_elements.new.bits) c.in-Ok-Last.ensures.shorter c.in-Ok.ensures.advanced

pub elements::read_part-returns-in-Ok-read_elements-clause-ok :
    goal.elements::read_part-returns-in-Ok-read_elements-clause-ok
elements::read_part-returns-in-Ok-read_elements-clause-ok t c =
    λ f.
    let value = run_value c.args.reader.code.now c.args.reader.levels c.args.reader.id.index in
    let sorted = c.args.fragment.size.sorted in
    let test = size_fault (constraint_of c.args.fragment.size.constraint.now) c.args.fragment.size.outside in
    let full = c.args.fragment.full in
    let es = gathered c.args.list.now in
    let p = c.args.progress.now in
    let b = bits_left c.args.bits.now in
    let r = bits_left c.read_total.new.bits in
    let i : c.len-before.result ≡ length es.values = c.len-before.ensures ∙ c.args.list.now.values.ok.0 ∙ sym (length-map c.args.list.now.values.items abstract) in
    let e = stated_at test full c.len-before.result (length es.values) b r c.in-Ok-Part.field-0 (part c.in-Ok-Part.times) i c.in-Ok-Part.field-0-is c.in-Ok-Part.ensures.is in
    part_more value sorted test f full es (gathered c.read_elements-in-Ok-Part.new.list) p.skipped p.left c.read_elements-in-Ok-Part.new.progress.skipped c.read_elements-in-Ok-Part.new.progress.left c.in-Ok-Part.times b r (bits_left c.read_elements-in-Ok-Part.new.bits) e c.in-Ok-read_elements.ensures.ok

pub elements::read_part-returns-in-Ok-read_elements-clause-advanced :
    goal.elements::read_part-returns-in-Ok-read_elements-clause-advanced
elements::read_part-returns-in-Ok-read_elements-clause-advanced t c = went_before c.args.progress.now c.read_elements-in-Ok-Part.new.progress (bits_left c.args.bits.now) (bits_left c.read_total.new.bits) (bits_left c.read_elements-in-Ok-Part.new.bits) c.in-Ok-Part.ensures.shorter c.in-Ok-read_elements.ensures.advanced

pub elements::read_part-returns-in-Ok-read_elements-clause-fewer :
    goal.elements::read_part-returns-in-Ok-read_elements-clause-fewer
elements::read_part-returns-in-Ok-read_elements-clause-fewer t c =
    let few = subst IsFewParts c.in-Ok-Part.field-0-is c.in-Ok-Part.ensures.few in
    let l = few.0 in
    let h = c.in-Ok-read_elements.ensures.fewer in
    omega (arith, l, h)

pub elements::read_part-returns-in-Err-clause-err : goal.elements::read_part-returns-in-Err-clause-err
elements::read_part-returns-in-Err-clause-err t c =
    λ f.
    let value = run_value c.args.reader.code.now c.args.reader.levels c.args.reader.id.index in
    let sorted = c.args.fragment.size.sorted in
    let test = size_fault (constraint_of c.args.fragment.size.constraint.now) c.args.fragment.size.outside in
    let full = c.args.fragment.full in
    let es = gathered c.args.list.now in
    let p = c.args.progress.now in
    let b = bits_left c.args.bits.now in
    let r = bits_left c.read_total.new.bits in
    let i : c.len-before.result ≡ length es.values = c.len-before.ensures ∙ c.args.list.now.values.ok.0 ∙ sym (length-map c.args.list.now.values.items abstract) in
    stop_stated value sorted test f full es c.len-before.result p.skipped p.left b r c.in-Err.refusal c.at.result i c.in-Err.ensures.is c.at.ensures

pub elements::read_parts-loop-more-init : goal.elements::read_parts-loop-more-init
elements::read_parts-loop-more-init t c =
    let value = run_value c.args.reader.code.now c.args.reader.levels c.args.reader.id.index in
    let sorted = c.args.size.sorted in
    let test = size_fault (constraint_of c.args.size.constraint.now) c.args.size.outside in
    let p = c.args.progress.now in
    let b = bits_left c.args.bits.now in
    let all = run_parts value sorted test (suc p.left) true (gathered c.args.list.now) p.skipped p.left b in
    (so_far_first value sorted test all true (gathered c.args.list.now) p b refl, went_same p b)

pub elements::read_parts-read_part-requires : goal.elements::read_parts-read_part-requires
elements::read_parts-read_part-requires t c =
    let lt : 30 * c.args.reader.levels + 25 < t = let d = c.decreases in omega (arith, d) in
    (lt, (c.requires.few, room_after c.args.progress.now c.loop-more.progress (bits_left c.args.bits.now) (bits_left c.loop-more.bits) c.loop-more.invariant.1 c.requires.room))

pub elements::read_parts-loop-more-smaller-in-Ok-Nothing : goal.elements::read_parts-loop-more-smaller-in-Ok-Nothing
elements::read_parts-loop-more-smaller-in-Ok-Nothing t c = less_last c.loop-more.more c.read_part.new.progress.left c.loop-more.progress.left c.loop-more-test.true c.in-Ok-Nothing.ensures.advanced.left

pub elements::read_parts-loop-more-preserved-in-Ok-Nothing :
    goal.elements::read_parts-loop-more-preserved-in-Ok-Nothing
elements::read_parts-loop-more-preserved-in-Ok-Nothing t c =
    let value = run_value c.args.reader.code.now c.args.reader.levels c.args.reader.id.index in
    let sorted = c.args.size.sorted in
    let test = size_fault (constraint_of c.args.size.constraint.now) c.args.size.outside in
    let p = c.args.progress.now in
    let b = bits_left c.args.bits.now in
    let all = run_parts value sorted test (suc p.left) true (gathered c.args.list.now) p.skipped p.left b in
    let es = gathered c.loop-more.list in
    let q = c.loop-more.progress in
    let z = bits_left c.loop-more.bits in
    let fs = gathered c.read_part.new.list in
    let u = c.read_part.new.progress in
    let r = bits_left c.read_part.new.bits in
    let g = subst (λ y. IsPart value (record { size = c.args.size; full = c.loop-more.full }) es q z y fs u r) c.in-Ok-Nothing.field-0-is c.in-Ok-Nothing.ensures.ok in
    (so_far_last value sorted test all c.loop-more.more c.loop-more.full c.loop-more.full es fs q u z r c.loop-more-test.true c.loop-more.invariant.0 g, went_on p q u b z r c.loop-more.invariant.1 c.in-Ok-Nothing.ensures.advanced)

pub elements::read_parts-loop-more-smaller : goal.elements::read_parts-loop-more-smaller
elements::read_parts-loop-more-smaller t c =
    let u = c.read_part.new.progress.left in
    let q = c.loop-more.progress.left in
    less_more c.loop-more.more u q (subst (λ y. IsLess y u q) c.in-Ok-More.field-0-is c.in-Ok-More.ensures.fewer)

pub elements::read_parts-loop-more-preserved : goal.elements::read_parts-loop-more-preserved
elements::read_parts-loop-more-preserved t c =
    let value = run_value c.args.reader.code.now c.args.reader.levels c.args.reader.id.index in
    let sorted = c.args.size.sorted in
    let test = size_fault (constraint_of c.args.size.constraint.now) c.args.size.outside in
    let p = c.args.progress.now in
    let b = bits_left c.args.bits.now in
    let all = run_parts value sorted test (suc p.left) true (gathered c.args.list.now) p.skipped p.left b in
    let es = gathered c.loop-more.list in
    let q = c.loop-more.progress in
    let z = bits_left c.loop-more.bits in
    let fs = gathered c.read_part.new.list in
    let u = c.read_part.new.progress in
    let r = bits_left c.read_part.new.bits in
    let g = subst (λ y. IsPart value (record { size = c.args.size; full = c.loop-more.full }) es q z y fs u r) c.in-Ok-More.field-0-is c.in-Ok-More.ensures.ok in
    let l = subst (λ y. IsLess y u.left q.left) c.in-Ok-More.field-0-is c.in-Ok-More.ensures.fewer in
    let h = so_far_more value sorted test all c.loop-more.more c.loop-more.full c.in-Ok-More.next es fs q u z r c.loop-more-test.true l c.loop-more.invariant.0 g in
    (subst (λ y. IsSoFar value sorted test all y c.in-Ok-More.next fs u r) (sym c.loop-more-test.true) h, went_on p q u b z r c.loop-more.invariant.1 c.in-Ok-More.ensures.advanced)

pub elements::read_parts-returns-in-Err-clause-err : goal.elements::read_parts-returns-in-Err-clause-err
elements::read_parts-returns-in-Err-clause-err t c =
    let value = run_value c.args.reader.code.now c.args.reader.levels c.args.reader.id.index in
    let sorted = c.args.size.sorted in
    let test = size_fault (constraint_of c.args.size.constraint.now) c.args.size.outside in
    let p = c.args.progress.now in
    let b = bits_left c.args.bits.now in
    let all = run_parts value sorted test (suc p.left) true (gathered c.args.list.now) p.skipped p.left b in
    let es = gathered c.loop-more.list in
    let q = c.loop-more.progress in
    let z = bits_left c.loop-more.bits in
    so_far_stops value sorted test all c.loop-more.more c.loop-more.full es q z (bits_left c.read_part.new.bits) c.in-Err.stop c.loop-more-test.true c.loop-more.invariant.0 c.in-Err.ensures.err

pub elements::read_parts-returns-clause-ok : goal.elements::read_parts-returns-clause-ok
elements::read_parts-returns-clause-ok t c =
    let value = run_value c.args.reader.code.now c.args.reader.levels c.args.reader.id.index in
    let sorted = c.args.size.sorted in
    let test = size_fault (constraint_of c.args.size.constraint.now) c.args.size.outside in
    let p = c.args.progress.now in
    let b = bits_left c.args.bits.now in
    let all = run_parts value sorted test (suc p.left) true (gathered c.args.list.now) p.skipped p.left b in
    let es = gathered c.loop-more.list in
    let q = c.loop-more.progress in
    let z = bits_left c.loop-more.bits in
    so_far_all value sorted test all c.loop-more.more c.loop-more.full es q z c.loop-more-test.false c.loop-more.invariant.0

pub elements::read_parts-returns-clause-advanced : goal.elements::read_parts-returns-clause-advanced
elements::read_parts-returns-clause-advanced t c = c.loop-more.invariant.1

pub alternatives::read_pick-core-requires : goal.alternatives::read_pick-core-requires
alternatives::read_pick-core-requires t c = subst (λ q. c.args.reader.id.index < length q) (sym c.schema.ensures) c.requires.there

pub alternatives::read_pick-read_call-requires : goal.alternatives::read_pick-read_call-requires
alternatives::read_pick-read_call-requires t c = calls_have_width c.args.reader.code.now c.args.reader.id.index (kind_of c.core.result.now) c.args.calls.now c.requires.pick (kind_found c.args.reader.code.now c.schema.result.now c.args.reader.id.index (kind_of c.core.result.now) c.core.ensures.is.0 c.schema.ensures c.core.ensures.is.1) (λ root more e h. c.has_few.ensures root more e h)

pub alternatives::read_pick-returns-in-Err-clause-err : goal.alternatives::read_pick-returns-in-Err-clause-err
alternatives::read_pick-returns-in-Err-clause-err t c =
    stop_next (plain (call_from c.args.calls.now (bits_left c.args.bits.now))) (λ q r. run_chosen (run_value c.args.reader.code.now c.args.reader.levels) q c.args.progress.now.skipped c.args.progress.now.left r) c.at.result (bits_left c.read_call.new.bits)
    (stop_at (plain (call_from c.args.calls.now (bits_left c.args.bits.now))) c.in-Err.refusal c.at.result (bits_left c.read_call.new.bits) (ap plain c.in-Err.ensures) c.at.ensures)

pub alternatives::read_pick-read_chosen-requires : goal.alternatives::read_pick-read_chosen-requires
alternatives::read_pick-read_chosen-requires t c =
    let d = c.decreases in
    let lt : 30 * c.args.reader.levels + 27 < t = omega (arith, d) in
    (lt, (c.requires.few, call_room c.args.reader.code.now c.args.reader.id.index c.args.progress.now (bits_left c.args.bits.now) (bits_left c.read_call.new.bits) c.args.calls.now (chosen_of c.in-Ok.call) c.in-Ok.ensures c.requires.room))

pub alternatives::read_pick-returns-clause-ok : goal.alternatives::read_pick-returns-clause-ok
alternatives::read_pick-returns-clause-ok t c =
    got_as c.read_chosen.result (onward (plain (call_from c.args.calls.now (bits_left c.args.bits.now))) (λ q r. run_chosen (run_value c.args.reader.code.now c.args.reader.levels) q c.args.progress.now.skipped c.args.progress.now.left r)) (run_chosen (run_value c.args.reader.code.now c.args.reader.levels) (chosen_of c.in-Ok.call) c.args.progress.now.skipped c.args.progress.now.left (bits_left c.read_call.new.bits)) c.read_chosen.new.progress (bits_left c.read_chosen.new.bits)
    (ap (λ o. onward (plain o) (λ q r. run_chosen (run_value c.args.reader.code.now c.args.reader.levels) q c.args.progress.now.skipped c.args.progress.now.left r)) c.in-Ok.ensures) c.read_chosen.ensures.ok

pub alternatives::read_pick-returns-clause-err : goal.alternatives::read_pick-returns-clause-err
alternatives::read_pick-returns-clause-err t c =
    stops_as c.read_chosen.result (onward (plain (call_from c.args.calls.now (bits_left c.args.bits.now))) (λ q r. run_chosen (run_value c.args.reader.code.now c.args.reader.levels) q c.args.progress.now.skipped c.args.progress.now.left r)) (run_chosen (run_value c.args.reader.code.now c.args.reader.levels) (chosen_of c.in-Ok.call) c.args.progress.now.skipped c.args.progress.now.left (bits_left c.read_call.new.bits)) (bits_left c.read_chosen.new.bits)
    (ap (λ o. onward (plain o) (λ q r. run_chosen (run_value c.args.reader.code.now c.args.reader.levels) q c.args.progress.now.skipped c.args.progress.now.left r)) c.in-Ok.ensures) c.read_chosen.ensures.err

pub alternatives::read_pick-returns-clause-advanced : goal.alternatives::read_pick-returns-clause-advanced
alternatives::read_pick-returns-clause-advanced t c = went_ok c.read_chosen.result c.args.progress.now c.args.progress.now c.read_chosen.new.progress (bits_left c.args.bits.now) (bits_left c.read_call.new.bits) (bits_left c.read_chosen.new.bits) (went_shorter c.args.progress.now (bits_left c.args.bits.now) (bits_left c.read_call.new.bits) (call_shorter c.args.calls.now (bits_left c.args.bits.now) (bits_left c.read_call.new.bits) (chosen_of c.in-Ok.call) c.in-Ok.ensures)) c.read_chosen.ensures.advanced

pub components::read_present-put-requires : goal.components::read_present-put-requires
components::read_present-put-requires t c = subst (λ q. c.args.field.place < q) (sym c.requires.places) (within_row (components (kind_at c.args.reader.code.now c.args.reader.id.index)) c.args.field.place c.requires.fits.component c.requires.fits.there)

pub components::read_present-returns-in-Some-clause-ok : goal.components::read_present-returns-in-Some-clause-ok
components::read_present-returns-in-Some-clause-ok t c =
    let s = c.args.reader.code.now in
    let cs = components (kind_at s c.args.reader.id.index) in
    let ws = row_of_values c.args.row.now.items in
    let p = c.args.progress.now in
    let q = c.next_scalar.new.progress in
    let b = bits_left c.args.bits.now in
    let v = scalar_value c.in-Some.scalar in
    present_ok s c.args.reader.levels cs c.args.field ws p.skipped p.left b v q.skipped q.left (bits_left c.next_scalar.new.bits)
    (row_of_values c.put.new.row.items) c.in-Some.ensures.got
    (never_default s c.args.reader.levels cs c.args.field ws p.skipped p.left b c.requires.fits.component v q.skipped q.left
    c.requires.fits.there (ap (λ q. q.with_default) c.requires.fits.is) c.in-Some.ensures.none)
    (c.put.ensures.row ∙ ap (λ x. with_value c.args.field.place x ws) c.value.ensures)

pub components::read_present-returns-in-Some-clause-advanced : goal.components::read_present-returns-in-Some-clause-advanced
components::read_present-returns-in-Some-clause-advanced t c = c.in-Some.ensures.advanced

pub components::read_present-returns-in-Some-clause-places : goal.components::read_present-returns-in-Some-clause-places
components::read_present-returns-in-Some-clause-places t c = c.put.ensures.length

pub components::read_present-read_component-requires : goal.components::read_present-read_component-requires
components::read_present-read_component-requires t c =
    let d = c.decreases in
    let lt : 30 * c.args.reader.levels + 17 < t = omega (arith, d) in
    (lt, (c.requires.few, (c.requires.room, (c.requires.fits, c.requires.places))))

pub components::read_present-returns-in-None-clause-ok : goal.components::read_present-returns-in-None-clause-ok
components::read_present-returns-in-None-clause-ok t c = c.read_component.ensures.ok

pub components::read_present-returns-in-None-clause-err : goal.components::read_present-returns-in-None-clause-err
components::read_present-returns-in-None-clause-err t c = c.read_component.ensures.err

pub components::read_present-returns-in-None-clause-advanced : goal.components::read_present-returns-in-None-clause-advanced
components::read_present-returns-in-None-clause-advanced t c = c.read_component.ensures.advanced

pub components::read_present-returns-in-None-clause-places : goal.components::read_present-returns-in-None-clause-places
components::read_present-returns-in-None-clause-places t c = c.read_component.ensures.places

pub components::read_component-read_value-requires : goal.components::read_component-read_value-requires
components::read_component-read_value-requires t c =
    let f = c.requires.few in
    let d = c.decreases in
    let lt : 30 * c.args.reader.levels + 1 < t = omega (arith, d) in
    let few : c.args.reader.levels ≤ 64 = omega (arith, f) in
    (lt, (few, c.requires.room))

pub components::read_component-returns-in-Err-clause-err : goal.components::read_component-returns-in-Err-clause-err
components::read_component-returns-in-Err-clause-err t c = present_stop c.args.reader.code.now c.args.reader.levels (components (kind_at c.args.reader.code.now c.args.reader.id.index)) c.args.field (row_of_values c.args.row.now.items) c.args.progress.now.skipped c.args.progress.now.left (bits_left c.args.bits.now) c.in-Err.stop c.within.result (bits_left c.read_value.new.bits) c.in-Err.ensures.err c.within.ensures

pub components::read_component-returns-in-Err-clause-places : goal.components::read_component-returns-in-Err-clause-places
components::read_component-returns-in-Err-clause-places t c = refl

pub components::read_component-is_default-requires : goal.components::read_component-is_default-requires
components::read_component-is_default-requires t c =
    let r = is_component c.args.reader.code.now c.schema.result.now c.args.reader.id.index c.args.field c.args.reader.levels (abstract c.in-Ok.value) c.requires.fits c.schema.ensures c.requires.few (λ s' u m n' w h g. c.lemma_levels_grow.ensures s' u m n' w h g) c.in-Ok.ensures.value in
    (r.0, r.1.0, r.1.1)

pub components::read_component-returns-then-is_default-clause-err : goal.components::read_component-returns-then-is_default-clause-err
components::read_component-returns-then-is_default-clause-err t c =
    present_same c.args.reader.code.now c.args.reader.levels (components (kind_at c.args.reader.code.now c.args.reader.id.index)) c.args.field (row_of_values c.args.row.now.items) c.args.progress.now.skipped c.args.progress.now.left (bits_left c.args.bits.now) (taken (abstract c.in-Ok.value) c.read_value.new.progress.skipped c.read_value.new.progress.left) (bits_left c.read_value.new.bits) c.at-stop.result c.within-then-is_default.result c.in-Ok.ensures.ok
    (same_as_default c.args.reader.code.now c.args.reader.levels (components (kind_at c.args.reader.code.now c.args.reader.id.index)) c.args.field (row_of_values c.args.row.now.items) c.args.progress.now.skipped c.args.progress.now.left (bits_left c.args.bits.now) c.requires.fits.component (abstract c.in-Ok.value) c.read_value.new.progress.skipped c.read_value.new.progress.left c.is_default.result c.requires.fits.there c.if-progress-skipped.true (default_as c.args.reader.code.now c.schema.result.now c.args.reader.id.index c.args.field.place c.requires.fits.component (abstract c.in-Ok.value) c.is_default.result c.schema.ensures c.requires.fits.there c.is_default.ensures) c.if-is_default.true) c.at-stop.ensures c.within-then-is_default.ensures

pub components::read_component-returns-then-is_default-clause-places : goal.components::read_component-returns-then-is_default-clause-places
components::read_component-returns-then-is_default-clause-places t c = refl

pub components::read_component-put-requires : goal.components::read_component-put-requires
components::read_component-put-requires t c = subst (λ q. c.args.field.place < q) (sym c.requires.places) (within_row (components (kind_at c.args.reader.code.now c.args.reader.id.index)) c.args.field.place c.requires.fits.component c.requires.fits.there)

pub components::read_component-returns-clause-ok : goal.components::read_component-returns-clause-ok
components::read_component-returns-clause-ok t c =
    present_ok c.args.reader.code.now c.args.reader.levels (components (kind_at c.args.reader.code.now c.args.reader.id.index)) c.args.field (row_of_values c.args.row.now.items) c.args.progress.now.skipped c.args.progress.now.left (bits_left c.args.bits.now) (abstract c.in-Ok.value) c.read_value.new.progress.skipped c.read_value.new.progress.left (bits_left c.read_value.new.bits) (row_of_values c.put.new.row.items) c.in-Ok.ensures.ok
    (elim c.else-progress-skipped.branch [
      | components::read_component-else-progress-skipped-via-then-progress-skipped+then-field+else-is_default w ↦ no_default c.args.reader.code.now c.args.reader.levels (components (kind_at c.args.reader.code.now c.args.reader.id.index)) c.args.field (row_of_values c.args.row.now.items) c.args.progress.now.skipped c.args.progress.now.left (bits_left c.args.bits.now) c.requires.fits.component (abstract c.in-Ok.value) c.read_value.new.progress.skipped c.read_value.new.progress.left w.is_default.result c.requires.fits.there (default_as c.args.reader.code.now w.schema.result.now c.args.reader.id.index c.args.field.place c.requires.fits.component (abstract c.in-Ok.value) w.is_default.result w.schema.ensures c.requires.fits.there w.is_default.ensures) w.if-is_default.false
      | components::read_component-else-progress-skipped-via-then-progress-skipped+else-field w ↦ never_default c.args.reader.code.now c.args.reader.levels (components (kind_at c.args.reader.code.now c.args.reader.id.index)) c.args.field (row_of_values c.args.row.now.items) c.args.progress.now.skipped c.args.progress.now.left (bits_left c.args.bits.now) c.requires.fits.component (abstract c.in-Ok.value) c.read_value.new.progress.skipped c.read_value.new.progress.left c.requires.fits.there (ap (λ q. q.with_default) c.requires.fits.is) w.if-field.false
      | components::read_component-else-progress-skipped-via-else-progress-skipped w ↦ some_skipped c.args.reader.code.now c.args.reader.levels (components (kind_at c.args.reader.code.now c.args.reader.id.index)) c.args.field (row_of_values c.args.row.now.items) c.args.progress.now.skipped c.args.progress.now.left (bits_left c.args.bits.now) (abstract c.in-Ok.value) c.read_value.new.progress.skipped c.read_value.new.progress.left w.if-progress-skipped.false
    ]) c.put.ensures.row

pub components::read_component-returns-clause-advanced : goal.components::read_component-returns-clause-advanced
components::read_component-returns-clause-advanced t c = c.in-Ok.ensures.advanced

pub components::read_component-returns-clause-places : goal.components::read_component-returns-clause-places
components::read_component-returns-clause-places t c = c.put.ensures.length

pub components::read_row-returns-in-Err-clause-err : goal.components::read_row-returns-in-Err-clause-err
components::read_row-returns-in-Err-clause-err t c =
    no_mark c.args.reader.code.now c.args.reader.levels (components (kind_at c.args.reader.code.now c.args.reader.id.index)) c.args.shape.extensible c.args.shape.count c.args.shape.steps.now c.args.progress.now.skipped c.args.progress.now.left (bits_left c.args.bits.now) c.at.result (bits_left c.read_mark.new.bits)
    (stop_at (mark_from c.args.shape.extensible (bits_left c.args.bits.now)) c.in-Err.refusal c.at.result (bits_left c.read_mark.new.bits) c.in-Err.ensures.is c.at.ensures)

pub components::read_row-returns-in-Err-read_presences-clause-err : goal.components::read_row-returns-in-Err-read_presences-clause-err
components::read_row-returns-in-Err-read_presences-clause-err t c =
    no_presences c.args.reader.code.now c.args.reader.levels (components (kind_at c.args.reader.code.now c.args.reader.id.index)) c.args.shape.extensible c.args.shape.count c.args.shape.steps.now c.args.progress.now.skipped c.args.progress.now.left (bits_left c.args.bits.now) c.in-Ok.more (bits_left c.read_mark.new.bits) (bits_left c.read_presences.new.bits) (fields_in c.next.result.now) c.in-Err-read_presences.stop c.in-Ok.ensures.is (ap fields_in c.next.ensures ∙ sym (next_is c.args.shape.count c.args.shape.steps.now)) c.in-Err-read_presences.ensures.err

pub components::read_row-read_members-requires : goal.components::read_row-read_members-requires
components::read_row-read_members-requires t c =
    let d = c.decreases in
    let lt : 30 * c.args.reader.levels + 20 < t = omega (arith, d) in
    (lt, (c.requires.few, (room_left c.args.progress.now c.args.progress.now (bits_left c.args.bits.now) (bits_left c.read_presences.new.bits) c.requires.room (both_went c.args.progress.now c.args.progress.now c.args.progress.now (bits_left c.args.bits.now) (bits_left c.read_mark.new.bits) (bits_left c.read_presences.new.bits) (went_shorter c.args.progress.now (bits_left c.args.bits.now) (bits_left c.read_mark.new.bits) c.in-Ok.ensures.shorter) (went_shorter c.args.progress.now (bits_left c.read_mark.new.bits) (bits_left c.read_presences.new.bits) c.in-Ok-read_presences.ensures.shorter)), ((subst (AreSent c.args.reader.code.now c.args.reader.id.index) (sym c.as_slice.ensures.value) (sent_fit c.args.reader.code.now c.args.reader.id.index c.in-Ok-read_presences.sent.items (fields_in c.next.result.now) c.in-Ok-read_presences.ensures.fields (fields_fit c.args.reader.code.now c.args.reader.id.index c.next.result.now (subst (FieldsFit c.args.reader.code.now c.args.reader.id.index) (sym c.next.ensures) (all_take (FieldOf c.args.reader.code.now c.args.reader.id.index) c.args.shape.count c.args.shape.steps.now c.requires.fit))))), c.requires.places))))

pub components::read_row-returns-in-Err-read_members-clause-err : goal.components::read_row-returns-in-Err-read_members-clause-err
components::read_row-returns-in-Err-read_members-clause-err t c =
    no_members c.args.reader.code.now c.args.reader.levels (components (kind_at c.args.reader.code.now c.args.reader.id.index)) c.args.shape.extensible c.args.shape.count c.args.shape.steps.now c.args.progress.now.skipped c.args.progress.now.left (bits_left c.args.bits.now) c.in-Ok.more (bits_left c.read_mark.new.bits) (bits_left c.read_presences.new.bits) (bits_left c.read_members.new.bits) (fields_in c.next.result.now) c.in-Ok-read_presences.sent.items (row_of_values c.args.row.now.items) c.in-Err-read_members.stop c.in-Ok.ensures.is (ap fields_in c.next.ensures ∙ sym (next_is c.args.shape.count c.args.shape.steps.now)) c.in-Ok-read_presences.ensures.ok c.requires.empty
    (subst (λ xs. IsStop (run_members c.args.reader.code.now c.args.reader.levels (run_value c.args.reader.code.now c.args.reader.levels) (components (kind_at c.args.reader.code.now c.args.reader.id.index)) xs (row_of_values c.args.row.now.items) c.args.progress.now.skipped c.args.progress.now.left (bits_left c.read_presences.new.bits)) c.in-Err-read_members.stop (bits_left c.read_members.new.bits)) c.as_slice.ensures.value c.in-Err-read_members.ensures.err)

pub components::read_row-read_extension-requires : goal.components::read_row-read_extension-requires
components::read_row-read_extension-requires t c =
    let d = c.decreases in
    let lt : 30 * c.args.reader.levels + 26 < t = omega (arith, d) in
    (lt, (c.requires.few, (room_left c.args.progress.now c.read_members.new.progress (bits_left c.args.bits.now) (bits_left c.read_members.new.bits) c.requires.room (both_went c.args.progress.now c.args.progress.now c.read_members.new.progress (bits_left c.args.bits.now) (bits_left c.read_presences.new.bits) (bits_left c.read_members.new.bits) (both_went c.args.progress.now c.args.progress.now c.args.progress.now (bits_left c.args.bits.now) (bits_left c.read_mark.new.bits) (bits_left c.read_presences.new.bits) (went_shorter c.args.progress.now (bits_left c.args.bits.now) (bits_left c.read_mark.new.bits) c.in-Ok.ensures.shorter) (went_shorter c.args.progress.now (bits_left c.read_mark.new.bits) (bits_left c.read_presences.new.bits) c.in-Ok-read_presences.ensures.shorter)) c.in-Ok-read_members.ensures.advanced), (subst (FieldsFit c.args.reader.code.now c.args.reader.id.index) (sym c.past.ensures) (all_drop (FieldOf c.args.reader.code.now c.args.reader.id.index) c.args.shape.count c.args.shape.steps.now c.requires.fit), c.in-Ok-read_members.ensures.places ∙ c.requires.places))))

pub components::read_row-returns-then-more-clause-ok : goal.components::read_row-returns-then-more-clause-ok
components::read_row-returns-then-more-clause-ok t c =
    row_as c.read_extension.result (run_structure c.args.reader.code.now c.args.reader.levels (run_value c.args.reader.code.now c.args.reader.levels) (components (kind_at c.args.reader.code.now c.args.reader.id.index)) c.args.shape.extensible c.args.shape.count c.args.shape.steps.now c.args.progress.now.skipped c.args.progress.now.left (bits_left c.args.bits.now)) (run_rest c.args.reader.code.now c.args.reader.levels (run_value c.args.reader.code.now c.args.reader.levels) (components (kind_at c.args.reader.code.now c.args.reader.id.index)) true c.past.result.now (row_of_values c.read_members.new.row.items) c.read_members.new.progress.skipped c.read_members.new.progress.left (bits_left c.read_members.new.bits)) (row_of_values c.read_extension.new.row.items) c.read_extension.new.progress (bits_left c.read_extension.new.bits)
    ((rest_is c.args.reader.code.now c.args.reader.levels (components (kind_at c.args.reader.code.now c.args.reader.id.index)) c.args.shape.extensible c.args.shape.count c.args.shape.steps.now c.args.progress.now.skipped c.args.progress.now.left (bits_left c.args.bits.now) c.in-Ok.more (bits_left c.read_mark.new.bits) (bits_left c.read_presences.new.bits) (bits_left c.read_members.new.bits) (fields_in c.next.result.now) c.in-Ok-read_presences.sent.items (row_of_values c.args.row.now.items) (row_of_values c.read_members.new.row.items) c.read_members.new.progress.skipped c.read_members.new.progress.left c.in-Ok.ensures.is (ap fields_in c.next.ensures ∙ sym (next_is c.args.shape.count c.args.shape.steps.now)) c.in-Ok-read_presences.ensures.ok c.requires.empty (subst (λ xs. run_members c.args.reader.code.now c.args.reader.levels (run_value c.args.reader.code.now c.args.reader.levels) (components (kind_at c.args.reader.code.now c.args.reader.id.index)) xs (row_of_values c.args.row.now.items) c.args.progress.now.skipped c.args.progress.now.left (bits_left c.read_presences.new.bits) ≡ read (taken (row_of_values c.read_members.new.row.items) c.read_members.new.progress.skipped c.read_members.new.progress.left) (bits_left c.read_members.new.bits)) c.as_slice.ensures.value c.in-Ok-read_members.ensures.ok)) ∙ ap (λ q. run_rest c.args.reader.code.now c.args.reader.levels (run_value c.args.reader.code.now c.args.reader.levels) (components (kind_at c.args.reader.code.now c.args.reader.id.index)) q (drop c.args.shape.count c.args.shape.steps.now) (row_of_values c.read_members.new.row.items) c.read_members.new.progress.skipped c.read_members.new.progress.left (bits_left c.read_members.new.bits)) c.if-more.true ∙ ap (λ q. run_rest c.args.reader.code.now c.args.reader.levels (run_value c.args.reader.code.now c.args.reader.levels) (components (kind_at c.args.reader.code.now c.args.reader.id.index)) true q (row_of_values c.read_members.new.row.items) c.read_members.new.progress.skipped c.read_members.new.progress.left (bits_left c.read_members.new.bits)) (sym c.past.ensures)) c.read_extension.ensures.ok

pub components::read_row-returns-then-more-clause-err : goal.components::read_row-returns-then-more-clause-err
components::read_row-returns-then-more-clause-err t c =
    stops_as c.read_extension.result (run_structure c.args.reader.code.now c.args.reader.levels (run_value c.args.reader.code.now c.args.reader.levels) (components (kind_at c.args.reader.code.now c.args.reader.id.index)) c.args.shape.extensible c.args.shape.count c.args.shape.steps.now c.args.progress.now.skipped c.args.progress.now.left (bits_left c.args.bits.now)) (run_rest c.args.reader.code.now c.args.reader.levels (run_value c.args.reader.code.now c.args.reader.levels) (components (kind_at c.args.reader.code.now c.args.reader.id.index)) true c.past.result.now (row_of_values c.read_members.new.row.items) c.read_members.new.progress.skipped c.read_members.new.progress.left (bits_left c.read_members.new.bits)) (bits_left c.read_extension.new.bits)
    ((rest_is c.args.reader.code.now c.args.reader.levels (components (kind_at c.args.reader.code.now c.args.reader.id.index)) c.args.shape.extensible c.args.shape.count c.args.shape.steps.now c.args.progress.now.skipped c.args.progress.now.left (bits_left c.args.bits.now) c.in-Ok.more (bits_left c.read_mark.new.bits) (bits_left c.read_presences.new.bits) (bits_left c.read_members.new.bits) (fields_in c.next.result.now) c.in-Ok-read_presences.sent.items (row_of_values c.args.row.now.items) (row_of_values c.read_members.new.row.items) c.read_members.new.progress.skipped c.read_members.new.progress.left c.in-Ok.ensures.is (ap fields_in c.next.ensures ∙ sym (next_is c.args.shape.count c.args.shape.steps.now)) c.in-Ok-read_presences.ensures.ok c.requires.empty (subst (λ xs. run_members c.args.reader.code.now c.args.reader.levels (run_value c.args.reader.code.now c.args.reader.levels) (components (kind_at c.args.reader.code.now c.args.reader.id.index)) xs (row_of_values c.args.row.now.items) c.args.progress.now.skipped c.args.progress.now.left (bits_left c.read_presences.new.bits) ≡ read (taken (row_of_values c.read_members.new.row.items) c.read_members.new.progress.skipped c.read_members.new.progress.left) (bits_left c.read_members.new.bits)) c.as_slice.ensures.value c.in-Ok-read_members.ensures.ok)) ∙ ap (λ q. run_rest c.args.reader.code.now c.args.reader.levels (run_value c.args.reader.code.now c.args.reader.levels) (components (kind_at c.args.reader.code.now c.args.reader.id.index)) q (drop c.args.shape.count c.args.shape.steps.now) (row_of_values c.read_members.new.row.items) c.read_members.new.progress.skipped c.read_members.new.progress.left (bits_left c.read_members.new.bits)) c.if-more.true ∙ ap (λ q. run_rest c.args.reader.code.now c.args.reader.levels (run_value c.args.reader.code.now c.args.reader.levels) (components (kind_at c.args.reader.code.now c.args.reader.id.index)) true q (row_of_values c.read_members.new.row.items) c.read_members.new.progress.skipped c.read_members.new.progress.left (bits_left c.read_members.new.bits)) (sym c.past.ensures)) c.read_extension.ensures.err

pub components::read_row-returns-then-more-clause-advanced : goal.components::read_row-returns-then-more-clause-advanced
components::read_row-returns-then-more-clause-advanced t c = went_done c.read_extension.result c.args.progress.now c.read_members.new.progress c.read_extension.new.progress (bits_left c.args.bits.now) (bits_left c.read_members.new.bits) (bits_left c.read_extension.new.bits) (both_went c.args.progress.now c.args.progress.now c.read_members.new.progress (bits_left c.args.bits.now) (bits_left c.read_presences.new.bits) (bits_left c.read_members.new.bits) (both_went c.args.progress.now c.args.progress.now c.args.progress.now (bits_left c.args.bits.now) (bits_left c.read_mark.new.bits) (bits_left c.read_presences.new.bits) (went_shorter c.args.progress.now (bits_left c.args.bits.now) (bits_left c.read_mark.new.bits) c.in-Ok.ensures.shorter) (went_shorter c.args.progress.now (bits_left c.read_mark.new.bits) (bits_left c.read_presences.new.bits) c.in-Ok-read_presences.ensures.shorter)) c.in-Ok-read_members.ensures.advanced) c.read_extension.ensures.advanced

pub components::read_row-returns-clause-ok : goal.components::read_row-returns-clause-ok
components::read_row-returns-clause-ok t c = (rest_is c.args.reader.code.now c.args.reader.levels (components (kind_at c.args.reader.code.now c.args.reader.id.index)) c.args.shape.extensible c.args.shape.count c.args.shape.steps.now c.args.progress.now.skipped c.args.progress.now.left (bits_left c.args.bits.now) c.in-Ok.more (bits_left c.read_mark.new.bits) (bits_left c.read_presences.new.bits) (bits_left c.read_members.new.bits) (fields_in c.next.result.now) c.in-Ok-read_presences.sent.items (row_of_values c.args.row.now.items) (row_of_values c.read_members.new.row.items) c.read_members.new.progress.skipped c.read_members.new.progress.left c.in-Ok.ensures.is (ap fields_in c.next.ensures ∙ sym (next_is c.args.shape.count c.args.shape.steps.now)) c.in-Ok-read_presences.ensures.ok c.requires.empty (subst (λ xs. run_members c.args.reader.code.now c.args.reader.levels (run_value c.args.reader.code.now c.args.reader.levels) (components (kind_at c.args.reader.code.now c.args.reader.id.index)) xs (row_of_values c.args.row.now.items) c.args.progress.now.skipped c.args.progress.now.left (bits_left c.read_presences.new.bits) ≡ read (taken (row_of_values c.read_members.new.row.items) c.read_members.new.progress.skipped c.read_members.new.progress.left) (bits_left c.read_members.new.bits)) c.as_slice.ensures.value c.in-Ok-read_members.ensures.ok)) ∙ ap (λ q. run_rest c.args.reader.code.now c.args.reader.levels (run_value c.args.reader.code.now c.args.reader.levels) (components (kind_at c.args.reader.code.now c.args.reader.id.index)) q (drop c.args.shape.count c.args.shape.steps.now) (row_of_values c.read_members.new.row.items) c.read_members.new.progress.skipped c.read_members.new.progress.left (bits_left c.read_members.new.bits)) c.if-more.false

pub components::read_row-returns-clause-advanced : goal.components::read_row-returns-clause-advanced
components::read_row-returns-clause-advanced t c = (both_went c.args.progress.now c.args.progress.now c.read_members.new.progress (bits_left c.args.bits.now) (bits_left c.read_presences.new.bits) (bits_left c.read_members.new.bits) (both_went c.args.progress.now c.args.progress.now c.args.progress.now (bits_left c.args.bits.now) (bits_left c.read_mark.new.bits) (bits_left c.read_presences.new.bits) (went_shorter c.args.progress.now (bits_left c.args.bits.now) (bits_left c.read_mark.new.bits) c.in-Ok.ensures.shorter) (went_shorter c.args.progress.now (bits_left c.read_mark.new.bits) (bits_left c.read_presences.new.bits) c.in-Ok-read_presences.ensures.shorter)) c.in-Ok-read_members.ensures.advanced)

pub value::read_steps-returns-in-Some-clause-ok : goal.value::read_steps-returns-in-Some-clause-ok
value::read_steps-returns-in-Some-clause-ok t c =
    let p = c.args.progress.now in
    c.in-Some.ensures.steps c.args.reader.levels p.skipped p.left (run_value c.args.reader.code.now c.args.reader.levels)
    ∙ ap (λ x. read (taken x p.skipped p.left) (bits_left c.read_scalar.new.bits)) (sym c.value.ensures)

pub value::read_steps-returns-in-Some-clause-advanced : goal.value::read_steps-returns-in-Some-clause-advanced
value::read_steps-returns-in-Some-clause-advanced t c =
    went_shorter c.args.progress.now (bits_left c.args.bits.now) (bits_left c.read_scalar.new.bits) c.in-Some.ensures.shorter

pub value::read_steps-read_plan-requires : goal.value::read_steps-read_plan-requires
value::read_steps-read_plan-requires t c =
    let d = c.decreases in
    let lt : 30 * c.args.reader.levels + 29 < t = omega (arith, d) in
    (lt, (c.requires.few, c.requires.room))

pub value::read_steps-returns-in-None-clause-ok : goal.value::read_steps-returns-in-None-clause-ok
value::read_steps-returns-in-None-clause-ok t c = c.read_plan.ensures.ok

pub value::read_steps-returns-in-None-clause-err : goal.value::read_steps-returns-in-None-clause-err
value::read_steps-returns-in-None-clause-err t c = c.read_plan.ensures.err

pub value::read_steps-returns-in-None-clause-advanced : goal.value::read_steps-returns-in-None-clause-advanced
value::read_steps-returns-in-None-clause-advanced t c = c.read_plan.ensures.advanced

pub value::read_plan-read_fields-requires : goal.value::read_plan-read_fields-requires
value::read_plan-read_fields-requires t c =
    let d = c.decreases in
    let lt : 30 * c.args.reader.levels + 28 < t = omega (arith, d) in
    let there = type_there c.args.reader.code.now c.args.reader.id.index c.steps.result.now c.plan_of.result (plans.Fields c.in-Fields.shape) c.steps.ensures c.in-Fields.is c.plan_of.ensures.some (λ h. h) in
    (lt, (c.requires.few, (c.requires.room, (there, fits_as c.args.reader.code.now c.args.reader.id.index c.steps.result.now c.plan_of.result (plans.Fields c.in-Fields.shape) c.steps.ensures c.in-Fields.is (c.plan_of.ensures.fits c.args.reader.code.now c.args.reader.id.index) (c.lemma_routines_fit.ensures c.args.reader.code.now c.args.reader.id.index)))))

pub value::read_plan-read_each-requires : goal.value::read_plan-read_each-requires
value::read_plan-read_each-requires t c =
    let d = c.decreases in
    let lt : 30 * c.args.reader.levels + 28 < t = omega (arith, d) in
    (lt, (c.requires.few, (c.requires.room, fits_as c.args.reader.code.now c.args.reader.id.index c.steps.result.now c.plan_of.result (plans.List c.in-List.element c.in-List.sorted) c.steps.ensures c.in-List.is (c.plan_of.ensures.fits c.args.reader.code.now c.args.reader.id.index) (c.lemma_routines_fit.ensures c.args.reader.code.now c.args.reader.id.index))))

pub value::read_plan-read_pick-requires : goal.value::read_plan-read_pick-requires
value::read_plan-read_pick-requires t c =
    let d = c.decreases in
    let lt : 30 * c.args.reader.levels + 28 < t = omega (arith, d) in
    let there = type_there c.args.reader.code.now c.args.reader.id.index c.steps.result.now c.plan_of.result (plans.Choice c.in-Choice.calls) c.steps.ensures c.in-Choice.is c.plan_of.ensures.some (λ h. h) in
    (lt, (c.requires.few, (c.requires.room, (fits_as c.args.reader.code.now c.args.reader.id.index c.steps.result.now c.plan_of.result (plans.Choice c.in-Choice.calls) c.steps.ensures c.in-Choice.is (c.plan_of.ensures.fits c.args.reader.code.now c.args.reader.id.index) (c.lemma_routines_fit.ensures c.args.reader.code.now c.args.reader.id.index), there))))

pub value::read_plan-read_contents-requires : goal.value::read_plan-read_contents-requires
value::read_plan-read_contents-requires t c =
    record { there = type_there c.args.reader.code.now c.args.reader.id.index c.steps.result.now c.plan_of.result plans.Leaf c.steps.ensures c.in-Leaf.is c.plan_of.ensures.some (λ h. h) }

pub value::read_plan-returns-in-Fields-clause-ok : goal.value::read_plan-returns-in-Fields-clause-ok
value::read_plan-returns-in-Fields-clause-ok t c =
    got_as c.read_fields.result (run_steps c.args.reader.code.now c.args.reader.levels (run_value c.args.reader.code.now c.args.reader.levels) c.args.reader.id.index (routine_at c.args.reader.code.now c.args.reader.id.index) c.args.progress.now.skipped c.args.progress.now.left (bits_left c.args.bits.now)) (run_plan c.args.reader.code.now c.args.reader.levels (run_value c.args.reader.code.now c.args.reader.levels) c.args.reader.id.index (plans.Fields c.in-Fields.shape) c.args.progress.now.skipped c.args.progress.now.left (bits_left c.args.bits.now)) c.read_fields.new.progress (bits_left c.read_fields.new.bits)
    (as_plan c.args.reader.code.now c.args.reader.levels c.args.reader.id.index c.args.progress.now.skipped c.args.progress.now.left (bits_left c.args.bits.now) c.steps.result.now c.plan_of.result (plans.Fields c.in-Fields.shape) c.steps.ensures c.plan_of.ensures.is c.in-Fields.is) c.read_fields.ensures.ok

pub value::read_plan-returns-in-Fields-clause-err : goal.value::read_plan-returns-in-Fields-clause-err
value::read_plan-returns-in-Fields-clause-err t c =
    stops_as c.read_fields.result (run_steps c.args.reader.code.now c.args.reader.levels (run_value c.args.reader.code.now c.args.reader.levels) c.args.reader.id.index (routine_at c.args.reader.code.now c.args.reader.id.index) c.args.progress.now.skipped c.args.progress.now.left (bits_left c.args.bits.now)) (run_plan c.args.reader.code.now c.args.reader.levels (run_value c.args.reader.code.now c.args.reader.levels) c.args.reader.id.index (plans.Fields c.in-Fields.shape) c.args.progress.now.skipped c.args.progress.now.left (bits_left c.args.bits.now)) (bits_left c.read_fields.new.bits)
    (as_plan c.args.reader.code.now c.args.reader.levels c.args.reader.id.index c.args.progress.now.skipped c.args.progress.now.left (bits_left c.args.bits.now) c.steps.result.now c.plan_of.result (plans.Fields c.in-Fields.shape) c.steps.ensures c.plan_of.ensures.is c.in-Fields.is) c.read_fields.ensures.err

pub value::read_plan-returns-in-Fields-clause-advanced : goal.value::read_plan-returns-in-Fields-clause-advanced
value::read_plan-returns-in-Fields-clause-advanced t c = c.read_fields.ensures.advanced

pub value::read_plan-returns-in-List-clause-ok : goal.value::read_plan-returns-in-List-clause-ok
value::read_plan-returns-in-List-clause-ok t c =
    got_as c.read_each.result (run_steps c.args.reader.code.now c.args.reader.levels (run_value c.args.reader.code.now c.args.reader.levels) c.args.reader.id.index (routine_at c.args.reader.code.now c.args.reader.id.index) c.args.progress.now.skipped c.args.progress.now.left (bits_left c.args.bits.now)) (run_plan c.args.reader.code.now c.args.reader.levels (run_value c.args.reader.code.now c.args.reader.levels) c.args.reader.id.index (plans.List c.in-List.element c.in-List.sorted) c.args.progress.now.skipped c.args.progress.now.left (bits_left c.args.bits.now)) c.read_each.new.progress (bits_left c.read_each.new.bits)
    (as_plan c.args.reader.code.now c.args.reader.levels c.args.reader.id.index c.args.progress.now.skipped c.args.progress.now.left (bits_left c.args.bits.now) c.steps.result.now c.plan_of.result (plans.List c.in-List.element c.in-List.sorted) c.steps.ensures c.plan_of.ensures.is c.in-List.is) c.read_each.ensures.ok

pub value::read_plan-returns-in-List-clause-err : goal.value::read_plan-returns-in-List-clause-err
value::read_plan-returns-in-List-clause-err t c =
    stops_as c.read_each.result (run_steps c.args.reader.code.now c.args.reader.levels (run_value c.args.reader.code.now c.args.reader.levels) c.args.reader.id.index (routine_at c.args.reader.code.now c.args.reader.id.index) c.args.progress.now.skipped c.args.progress.now.left (bits_left c.args.bits.now)) (run_plan c.args.reader.code.now c.args.reader.levels (run_value c.args.reader.code.now c.args.reader.levels) c.args.reader.id.index (plans.List c.in-List.element c.in-List.sorted) c.args.progress.now.skipped c.args.progress.now.left (bits_left c.args.bits.now)) (bits_left c.read_each.new.bits)
    (as_plan c.args.reader.code.now c.args.reader.levels c.args.reader.id.index c.args.progress.now.skipped c.args.progress.now.left (bits_left c.args.bits.now) c.steps.result.now c.plan_of.result (plans.List c.in-List.element c.in-List.sorted) c.steps.ensures c.plan_of.ensures.is c.in-List.is) c.read_each.ensures.err

pub value::read_plan-returns-in-List-clause-advanced : goal.value::read_plan-returns-in-List-clause-advanced
value::read_plan-returns-in-List-clause-advanced t c = c.read_each.ensures.advanced

pub value::read_plan-returns-in-Choice-clause-ok : goal.value::read_plan-returns-in-Choice-clause-ok
value::read_plan-returns-in-Choice-clause-ok t c =
    got_as c.read_pick.result (run_steps c.args.reader.code.now c.args.reader.levels (run_value c.args.reader.code.now c.args.reader.levels) c.args.reader.id.index (routine_at c.args.reader.code.now c.args.reader.id.index) c.args.progress.now.skipped c.args.progress.now.left (bits_left c.args.bits.now)) (run_plan c.args.reader.code.now c.args.reader.levels (run_value c.args.reader.code.now c.args.reader.levels) c.args.reader.id.index (plans.Choice c.in-Choice.calls) c.args.progress.now.skipped c.args.progress.now.left (bits_left c.args.bits.now)) c.read_pick.new.progress (bits_left c.read_pick.new.bits)
    (as_plan c.args.reader.code.now c.args.reader.levels c.args.reader.id.index c.args.progress.now.skipped c.args.progress.now.left (bits_left c.args.bits.now) c.steps.result.now c.plan_of.result (plans.Choice c.in-Choice.calls) c.steps.ensures c.plan_of.ensures.is c.in-Choice.is) c.read_pick.ensures.ok

pub value::read_plan-returns-in-Choice-clause-err : goal.value::read_plan-returns-in-Choice-clause-err
value::read_plan-returns-in-Choice-clause-err t c =
    stops_as c.read_pick.result (run_steps c.args.reader.code.now c.args.reader.levels (run_value c.args.reader.code.now c.args.reader.levels) c.args.reader.id.index (routine_at c.args.reader.code.now c.args.reader.id.index) c.args.progress.now.skipped c.args.progress.now.left (bits_left c.args.bits.now)) (run_plan c.args.reader.code.now c.args.reader.levels (run_value c.args.reader.code.now c.args.reader.levels) c.args.reader.id.index (plans.Choice c.in-Choice.calls) c.args.progress.now.skipped c.args.progress.now.left (bits_left c.args.bits.now)) (bits_left c.read_pick.new.bits)
    (as_plan c.args.reader.code.now c.args.reader.levels c.args.reader.id.index c.args.progress.now.skipped c.args.progress.now.left (bits_left c.args.bits.now) c.steps.result.now c.plan_of.result (plans.Choice c.in-Choice.calls) c.steps.ensures c.plan_of.ensures.is c.in-Choice.is) c.read_pick.ensures.err

pub value::read_plan-returns-in-Choice-clause-advanced : goal.value::read_plan-returns-in-Choice-clause-advanced
value::read_plan-returns-in-Choice-clause-advanced t c = c.read_pick.ensures.advanced

pub value::read_plan-returns-in-Leaf-clause-ok : goal.value::read_plan-returns-in-Leaf-clause-ok
value::read_plan-returns-in-Leaf-clause-ok t c =
    got_as c.read_contents.result (run_steps c.args.reader.code.now c.args.reader.levels (run_value c.args.reader.code.now c.args.reader.levels) c.args.reader.id.index (routine_at c.args.reader.code.now c.args.reader.id.index) c.args.progress.now.skipped c.args.progress.now.left (bits_left c.args.bits.now)) (run_plan c.args.reader.code.now c.args.reader.levels (run_value c.args.reader.code.now c.args.reader.levels) c.args.reader.id.index (plans.Leaf) c.args.progress.now.skipped c.args.progress.now.left (bits_left c.args.bits.now)) c.read_contents.new.progress (bits_left c.read_contents.new.bits)
    (as_plan c.args.reader.code.now c.args.reader.levels c.args.reader.id.index c.args.progress.now.skipped c.args.progress.now.left (bits_left c.args.bits.now) c.steps.result.now c.plan_of.result (plans.Leaf) c.steps.ensures c.plan_of.ensures.is c.in-Leaf.is) c.read_contents.ensures.ok

pub value::read_plan-returns-in-Leaf-clause-err : goal.value::read_plan-returns-in-Leaf-clause-err
value::read_plan-returns-in-Leaf-clause-err t c =
    stops_as c.read_contents.result (run_steps c.args.reader.code.now c.args.reader.levels (run_value c.args.reader.code.now c.args.reader.levels) c.args.reader.id.index (routine_at c.args.reader.code.now c.args.reader.id.index) c.args.progress.now.skipped c.args.progress.now.left (bits_left c.args.bits.now)) (run_plan c.args.reader.code.now c.args.reader.levels (run_value c.args.reader.code.now c.args.reader.levels) c.args.reader.id.index (plans.Leaf) c.args.progress.now.skipped c.args.progress.now.left (bits_left c.args.bits.now)) (bits_left c.read_contents.new.bits)
    (as_plan c.args.reader.code.now c.args.reader.levels c.args.reader.id.index c.args.progress.now.skipped c.args.progress.now.left (bits_left c.args.bits.now) c.steps.result.now c.plan_of.result (plans.Leaf) c.steps.ensures c.plan_of.ensures.is c.in-Leaf.is) c.read_contents.ensures.err

pub value::read_plan-returns-in-Leaf-clause-advanced : goal.value::read_plan-returns-in-Leaf-clause-advanced
value::read_plan-returns-in-Leaf-clause-advanced t c = c.read_contents.ensures.advanced

pub value::read_plan-returns-in-Nothing-clause-err : goal.value::read_plan-returns-in-Nothing-clause-err
value::read_plan-returns-in-Nothing-clause-err t c =
    stop_at (run_steps c.args.reader.code.now c.args.reader.levels (run_value c.args.reader.code.now c.args.reader.levels) c.args.reader.id.index (routine_at c.args.reader.code.now c.args.reader.id.index) c.args.progress.now.skipped c.args.progress.now.left (bits_left c.args.bits.now)) why.Outside c.at.result (bits_left c.args.bits.now)
    (as_plan c.args.reader.code.now c.args.reader.levels c.args.reader.id.index c.args.progress.now.skipped c.args.progress.now.left (bits_left c.args.bits.now) c.steps.result.now c.plan_of.result (plans.Nothing) c.steps.ensures c.plan_of.ensures.is c.in-Nothing.is) c.at.ensures

pub value::read_value-returns-then-reader-eq0-clause-err :
    goal.value::read_value-returns-then-reader-eq0-clause-err
value::read_value-returns-then-reader-eq0-clause-err t c =
    stop_at (run_value c.args.reader.code.now c.args.reader.levels c.args.reader.id.index c.args.progress.now.skipped c.args.progress.now.left (bits_left c.args.bits.now)) why.TooDeep c.at.result (bits_left c.args.bits.now)
    (value_deep c.args.reader.code.now c.args.reader.levels c.args.reader.id.index c.args.progress.now.skipped c.args.progress.now.left (bits_left c.args.bits.now) (let h = c.if-reader-eq0.true in omega (arith, h))) c.at.ensures

pub value::read_value-returns-then-progress-eq0-clause-err :
    goal.value::read_value-returns-then-progress-eq0-clause-err
value::read_value-returns-then-progress-eq0-clause-err t c =
    stop_at (run_value c.args.reader.code.now c.args.reader.levels c.args.reader.id.index c.args.progress.now.skipped c.args.progress.now.left (bits_left c.args.bits.now)) why.NodesLimit c.at-then-progress-eq0.result (bits_left c.args.bits.now)
    (value_full c.args.reader.code.now c.args.reader.levels c.args.reader.id.index c.args.progress.now.skipped c.args.progress.now.left (bits_left c.args.bits.now) (let h = c.if-reader-eq0.false in omega (arith, h)) (let h = c.if-progress-eq0.true in omega (arith, h))) c.at-then-progress-eq0.ensures

pub value::read_value-overflow_sub-progress : goal.value::read_value-overflow_sub-progress
value::read_value-overflow_sub-progress t c = let h = c.if-progress-eq0.false in omega (arith, h)

pub value::read_value-overflow_sub-reader : goal.value::read_value-overflow_sub-reader
value::read_value-overflow_sub-reader t c = let h = c.if-reader-eq0.false in omega (arith, h)

pub value::read_value-read_steps-requires : goal.value::read_value-read_steps-requires
value::read_value-read_steps-requires t c =
    let h = c.if-reader-eq0.false in
    let d = c.decreases in
    let f = c.requires.few in
    let lt : 30 * (c.args.reader.levels - 1) + 30 < t = omega (arith, h, d) in
    let few : c.args.reader.levels - 1 ≤ 63 = omega (arith, f) in
    (lt, (few, c.requires.room))

pub value::read_value-returns-clause-ok : goal.value::read_value-returns-clause-ok
value::read_value-returns-clause-ok t c = got_as c.read_steps.result (run_value c.args.reader.code.now c.args.reader.levels c.args.reader.id.index c.args.progress.now.skipped c.args.progress.now.left (bits_left c.args.bits.now)) (run_steps c.args.reader.code.now (c.args.reader.levels - 1) (run_value c.args.reader.code.now (c.args.reader.levels - 1)) c.args.reader.id.index (routine_at c.args.reader.code.now c.args.reader.id.index) c.args.progress.now.skipped (c.args.progress.now.left - 1) (bits_left c.args.bits.now)) c.read_steps.new.progress (bits_left c.read_steps.new.bits) (as_steps c) c.read_steps.ensures.ok

pub value::read_value-returns-clause-err : goal.value::read_value-returns-clause-err
value::read_value-returns-clause-err t c = stops_as c.read_steps.result (run_value c.args.reader.code.now c.args.reader.levels c.args.reader.id.index c.args.progress.now.skipped c.args.progress.now.left (bits_left c.args.bits.now)) (run_steps c.args.reader.code.now (c.args.reader.levels - 1) (run_value c.args.reader.code.now (c.args.reader.levels - 1)) c.args.reader.id.index (routine_at c.args.reader.code.now c.args.reader.id.index) c.args.progress.now.skipped (c.args.progress.now.left - 1) (bits_left c.args.bits.now)) (bits_left c.read_steps.new.bits) (as_steps c) c.read_steps.ensures.err

pub value::read_value-returns-clause-advanced : goal.value::read_value-returns-clause-advanced
value::read_value-returns-clause-advanced t c = went_value c.read_steps.result c.args.progress.now c.read_steps.new.progress (bits_left c.args.bits.now) (bits_left c.read_steps.new.bits) (let h = c.if-progress-eq0.false in omega (arith, h)) c.read_steps.ensures.advanced

pub value::read_value-returns-clause-fewer : goal.value::read_value-returns-clause-fewer
value::read_value-returns-clause-fewer t c = fewer_value c.read_steps.result c.args.progress.now c.read_steps.new.progress (bits_left c.args.bits.now) (bits_left c.read_steps.new.bits) (let h = c.if-progress-eq0.false in omega (arith, h)) c.read_steps.ensures.advanced

pub value::read_value-returns-clause-value : goal.value::read_value-returns-clause-value
value::read_value-returns-clause-value t c =
    let s = c.args.reader.code.now in
    let l = c.args.reader.levels in
    let u = c.args.reader.id.index in
    let n = c.args.progress.now.left in
    let b = bits_left c.args.bits.now in
    value_of c.read_steps.result s l u c.args.progress.now.skipped n b (bits_left c.read_steps.new.bits) c.read_steps.new.progress
    (c.value_laws.ensures s l u n c.lemma_invariant.ensures) (c.step_laws.ensures s l u n b c.lemma_invariant.ensures) (run_steps c.args.reader.code.now (c.args.reader.levels - 1) (run_value c.args.reader.code.now (c.args.reader.levels - 1)) c.args.reader.id.index (routine_at c.args.reader.code.now c.args.reader.id.index) c.args.progress.now.skipped (c.args.progress.now.left - 1) (bits_left c.args.bits.now)) (as_steps c) c.read_steps.ensures.ok

pub components::read_fields-returns-in-Err-read_row-clause-err : goal.components::read_fields-returns-in-Err-read_row-clause-err
components::read_fields-returns-in-Err-read_row-clause-err t c = stop_next (run_structure c.args.reader.code.now c.args.reader.levels (run_value c.args.reader.code.now c.args.reader.levels) (components (kind_at c.args.reader.code.now c.args.reader.id.index)) c.args.shape.extensible c.args.shape.count c.args.shape.steps.now c.args.progress.now.skipped c.args.progress.now.left (bits_left c.args.bits.now)) (λ w r. read (as_fields w) r) c.in-Err-read_row.stop (bits_left c.read_row.new.bits) c.in-Err-read_row.ensures.err

pub alternatives::read_chosen-read_opened-requires : goal.alternatives::read_chosen-read_opened-requires
alternatives::read_chosen-read_opened-requires t c =
    let d = c.decreases in
    let lt : 30 * c.args.reader.levels + 10 < t = omega (arith, d) in
    (lt, (c.requires.few, c.requires.room))

pub alternatives::read_chosen-read_value-requires : goal.alternatives::read_chosen-read_value-requires
alternatives::read_chosen-read_value-requires t c =
    let f = c.requires.few in
    let d = c.decreases in
    let lt : 30 * c.args.reader.levels + 1 < t = omega (arith, d) in
    let few : c.args.reader.levels ≤ 64 = omega (arith, f) in
    (lt, (few, c.requires.room))

pub alternatives::read_chosen-returns-in-Ok-clause-ok : goal.alternatives::read_chosen-returns-in-Ok-clause-ok
alternatives::read_chosen-returns-in-Ok-clause-ok t c = chosen_as c.args.reader.code.now c.args.reader.levels c.args.call.number c.args.call.ty.index c.args.progress.now.skipped c.args.progress.now.left (bits_left c.args.bits.now) c.alternative.result (open_from (run_value c.args.reader.code.now c.args.reader.levels c.args.call.ty.index c.args.progress.now.skipped c.args.progress.now.left) (bits_left c.args.bits.now)) (run_chosen (run_value c.args.reader.code.now c.args.reader.levels) (chosen_of c.args.call) c.args.progress.now.skipped c.args.progress.now.left (bits_left c.args.bits.now)) (abstract c.in-Ok.value) c.read_opened.new.progress (bits_left c.read_opened.new.bits) (chosen_open c.args.reader.code.now c.args.reader.levels c.args.call.number c.args.call.ty.index c.args.progress.now.skipped c.args.progress.now.left (bits_left c.args.bits.now) c.args.call.open c.if-call.true) c.in-Ok.ensures.ok c.alternative.ensures.ok

pub alternatives::read_chosen-returns-in-Ok-clause-err : goal.alternatives::read_chosen-returns-in-Ok-clause-err
alternatives::read_chosen-returns-in-Ok-clause-err t c = only_memory c.alternative.result (run_chosen (run_value c.args.reader.code.now c.args.reader.levels) (chosen_of c.args.call) c.args.progress.now.skipped c.args.progress.now.left (bits_left c.args.bits.now)) (bits_left c.read_opened.new.bits) c.alternative.ensures.err

pub alternatives::read_chosen-returns-in-Ok-clause-advanced : goal.alternatives::read_chosen-returns-in-Ok-clause-advanced
alternatives::read_chosen-returns-in-Ok-clause-advanced t c = whatever c.alternative.result c.in-Ok.ensures.advanced

pub alternatives::read_chosen-returns-in-Err-clause-err : goal.alternatives::read_chosen-returns-in-Err-clause-err
alternatives::read_chosen-returns-in-Err-clause-err t c = stop_as (run_chosen (run_value c.args.reader.code.now c.args.reader.levels) (chosen_of c.args.call) c.args.progress.now.skipped c.args.progress.now.left (bits_left c.args.bits.now)) (next' c.args.call.number (open_from (run_value c.args.reader.code.now c.args.reader.levels c.args.call.ty.index c.args.progress.now.skipped c.args.progress.now.left) (bits_left c.args.bits.now))) c.within.result (bits_left c.read_opened.new.bits) (chosen_open c.args.reader.code.now c.args.reader.levels c.args.call.number c.args.call.ty.index c.args.progress.now.skipped c.args.progress.now.left (bits_left c.args.bits.now) c.args.call.open c.if-call.true) (chosen_stop c.args.reader.code.now c.args.reader.levels c.args.call.number c.args.call.ty.index c.args.progress.now.skipped c.args.progress.now.left (bits_left c.args.bits.now) (open_from (run_value c.args.reader.code.now c.args.reader.levels c.args.call.ty.index c.args.progress.now.skipped c.args.progress.now.left) (bits_left c.args.bits.now)) c.in-Err.stop c.within.result (bits_left c.read_opened.new.bits) c.in-Err.ensures.err c.within.ensures)

pub alternatives::read_chosen-returns-in-Ok-read_value-clause-ok : goal.alternatives::read_chosen-returns-in-Ok-read_value-clause-ok
alternatives::read_chosen-returns-in-Ok-read_value-clause-ok t c = chosen_as c.args.reader.code.now c.args.reader.levels c.args.call.number c.args.call.ty.index c.args.progress.now.skipped c.args.progress.now.left (bits_left c.args.bits.now) c.alternative-in-Ok-read_value.result (run_value c.args.reader.code.now c.args.reader.levels c.args.call.ty.index c.args.progress.now.skipped c.args.progress.now.left (bits_left c.args.bits.now)) (run_chosen (run_value c.args.reader.code.now c.args.reader.levels) (chosen_of c.args.call) c.args.progress.now.skipped c.args.progress.now.left (bits_left c.args.bits.now)) (abstract c.in-Ok-read_value.value) c.read_value.new.progress (bits_left c.read_value.new.bits) (chosen_root c.args.reader.code.now c.args.reader.levels c.args.call.number c.args.call.ty.index c.args.progress.now.skipped c.args.progress.now.left (bits_left c.args.bits.now) c.args.call.open c.if-call.false) c.in-Ok-read_value.ensures.ok c.alternative-in-Ok-read_value.ensures.ok

pub alternatives::read_chosen-returns-in-Ok-read_value-clause-err : goal.alternatives::read_chosen-returns-in-Ok-read_value-clause-err
alternatives::read_chosen-returns-in-Ok-read_value-clause-err t c = only_memory c.alternative-in-Ok-read_value.result (run_chosen (run_value c.args.reader.code.now c.args.reader.levels) (chosen_of c.args.call) c.args.progress.now.skipped c.args.progress.now.left (bits_left c.args.bits.now)) (bits_left c.read_value.new.bits) c.alternative-in-Ok-read_value.ensures.err

pub alternatives::read_chosen-returns-in-Ok-read_value-clause-advanced : goal.alternatives::read_chosen-returns-in-Ok-read_value-clause-advanced
alternatives::read_chosen-returns-in-Ok-read_value-clause-advanced t c = whatever c.alternative-in-Ok-read_value.result c.in-Ok-read_value.ensures.advanced

pub alternatives::read_chosen-returns-in-Err-read_value-clause-err : goal.alternatives::read_chosen-returns-in-Err-read_value-clause-err
alternatives::read_chosen-returns-in-Err-read_value-clause-err t c = stop_as (run_chosen (run_value c.args.reader.code.now c.args.reader.levels) (chosen_of c.args.call) c.args.progress.now.skipped c.args.progress.now.left (bits_left c.args.bits.now)) (next' c.args.call.number (run_value c.args.reader.code.now c.args.reader.levels c.args.call.ty.index c.args.progress.now.skipped c.args.progress.now.left (bits_left c.args.bits.now))) c.within-in-Err-read_value.result (bits_left c.read_value.new.bits) (chosen_root c.args.reader.code.now c.args.reader.levels c.args.call.number c.args.call.ty.index c.args.progress.now.skipped c.args.progress.now.left (bits_left c.args.bits.now) c.args.call.open c.if-call.false) (chosen_stop c.args.reader.code.now c.args.reader.levels c.args.call.number c.args.call.ty.index c.args.progress.now.skipped c.args.progress.now.left (bits_left c.args.bits.now) (run_value c.args.reader.code.now c.args.reader.levels c.args.call.ty.index c.args.progress.now.skipped c.args.progress.now.left (bits_left c.args.bits.now)) c.in-Err-read_value.stop c.within-in-Err-read_value.result (bits_left c.read_value.new.bits) c.in-Err-read_value.ensures.err c.within-in-Err-read_value.ensures)
