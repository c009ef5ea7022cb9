use Rattle.std.proofs.Common.{◌≡◌, ◌+◌, ◌*◌, ◌++◌, drop, map, length}
use Rattle.std.specs.List.{AllByRecursion}
use Rattle.asn_base.specs.Abstract.{abstract}
use Rattle.asn_base.specs.Typed.{ValueIn}
use Rattle.packed_code.specs.Meaning.{field_bits, members_of, steps_bits}
use Rattle.packed_counts.specs.Counts.{Adds}
use Rattle.packed_encodings.specs.Lengths.{Bits, Counted, all_bits}
use Rattle.packed_writer.specs.proving.Values.{all_items, fields_in}
use Rattle.packed_writer.proofs.run.+writes.Given as goal

abbrev pub decreases-push_value : goal.decreases-push_value
decreases-push_value l = 20 * l.typed.levels + 9

abbrev pub decreases-push_steps : goal.decreases-push_steps
decreases-push_steps l = 20 * l.typed.levels + 8

abbrev pub decreases-push_step : goal.decreases-push_step
decreases-push_step l = 20 * l.typed.levels + 7

abbrev pub decreases-push_group : goal.decreases-push_group
decreases-push_group l = 20 * l.typed.levels + 6

abbrev pub decreases-push_fields : goal.decreases-push_fields
decreases-push_fields l = 20 * l.typed.levels + 5

abbrev pub decreases-push_member : goal.decreases-push_member
decreases-push_member l = 20 * l.typed.levels + 4

abbrev pub decreases-push_field : goal.decreases-push_field
decreases-push_field l = 20 * l.typed.levels + 3

abbrev pub decreases-push_added : goal.decreases-push_added
decreases-push_added l = 20 * l.typed.levels + 3

abbrev pub decreases-push_pick : goal.decreases-push_pick
decreases-push_pick l = 20 * l.typed.levels + 3

abbrev pub decreases-push_each : goal.decreases-push_each
decreases-push_each l = 20 * l.typed.levels + 3

abbrev pub decreases-push_sorted : goal.decreases-push_sorted
decreases-push_sorted l = 20 * l.typed.levels + 3

abbrev pub decreases-push_call : goal.decreases-push_call
decreases-push_call l = 20 * l.typed.levels + 15

abbrev pub decreases-push_opened : goal.decreases-push_opened
decreases-push_opened l = 20 * l.typed.levels + 10

abbrev pub decreases-push_counted : goal.decreases-push_counted
decreases-push_counted l = 20 * l.elements.levels + 12

abbrev pub decreases-push_all : goal.decreases-push_all
decreases-push_all l = 20 * l.elements.levels + 11

abbrev pub decreases-collect : goal.decreases-collect
decreases-collect l = 20 * l.elements.levels + 11

abbrev pub decreases-collect_one : goal.decreases-collect_one
decreases-collect_one l = 20 * l.typed.levels + 10

abbrev pub invariant-push_steps-loop-i : goal.invariant-push_steps-loop-i
invariant-push_steps-loop-i l =
    l.out ++ steps_bits l.code l.typed.id.index (abstract l.typed.value.now) (drop l.i l.steps)
    ≡ l.fn.out ++ steps_bits l.code l.typed.id.index (abstract l.typed.value.now) l.steps

abbrev pub invariant-push_fields-loop-i : goal.invariant-push_fields-loop-i
invariant-push_fields-loop-i l =
    l.out ++ field_bits (members_of l.code l.typed.id.index (abstract l.typed.value.now)) (fields_in (drop l.i l.steps))
    ≡ l.fn.out ++ field_bits (members_of l.code l.typed.id.index (abstract l.typed.value.now)) (fields_in l.steps)

abbrev pub invariant-push_all-loop-i : goal.invariant-push_all-loop-i
invariant-push_all-loop-i l =
    l.out ++ all_bits (drop l.i (all_items l.code l.elements.id.index (map abstract l.elements.values.now)))
    ≡ l.fn.out ++ all_bits (all_items l.code l.elements.id.index (map abstract l.elements.values.now))

abbrev pub invariant-collect-loop-i : goal.invariant-collect-loop-i
invariant-collect-loop-i l =
    l.items.items ++ drop l.i (all_items l.code l.elements.id.index (map abstract l.elements.values.now))
    ≡ l.fn.items.items ++ all_items l.code l.elements.id.index (map abstract l.elements.values.now)

abbrev pub invariant-push_counted-loop-rest : goal.invariant-push_counted-loop-rest
invariant-push_counted-loop-rest l =
    AllByRecursion (ValueIn l.code l.elements.levels l.elements.id.index) (map abstract l.rest)
    × ((x : Bits)
    → Adds (Counted (all_items l.code l.elements.id.index (map abstract l.rest))) l.out x
    → Adds (Counted (all_items l.code l.elements.id.index (map abstract l.elements.values.now))) l.fn.out x)

abbrev pub decreases-push_counted-loop-rest : goal.decreases-push_counted-loop-rest
decreases-push_counted-loop-rest l = length l.rest
