use Rattle.std.proofs.Common.{◌≡◌, ◌+◌, ◌-◌, ◌*◌, ◌≤◌, suc, true, cond, drop, length}
use Rattle.asn_base.specs.Schemas.{components}
use Rattle.asn_base.specs.Seen.{constraint_of}
use Rattle.bits.specs.Left.{bits_left}
use Rattle.packed_encodings.specs.Computed.{kind_at}
use Rattle.packed_readings.specs.Counts.{size_fault}
use Rattle.packed_reader.specs.proving.Code.{Advanced, gathered, row_of_values}
use Rattle.packed_reader.specs.proving.Running.{run_additions, run_elements, run_members, run_parts, run_value}
use Rattle.packed_reader.proofs.Parts.{IsSoFar}
use Rattle.packed_reader.proofs.+reads.Given as goal

abbrev pub decreases-value::read_value : goal.decreases-value::read_value
decreases-value::read_value l = 30 * l.reader.levels + 1

abbrev pub decreases-value::read_steps : goal.decreases-value::read_steps
decreases-value::read_steps l = 30 * l.reader.levels + 30

abbrev pub decreases-value::read_plan : goal.decreases-value::read_plan
decreases-value::read_plan l = 30 * l.reader.levels + 29

abbrev pub decreases-alternatives::read_pick : goal.decreases-alternatives::read_pick
decreases-alternatives::read_pick l = 30 * l.reader.levels + 28

abbrev pub decreases-alternatives::read_chosen : goal.decreases-alternatives::read_chosen
decreases-alternatives::read_chosen l = 30 * l.reader.levels + 27

abbrev pub decreases-value::read_opened : goal.decreases-value::read_opened
decreases-value::read_opened l = 30 * l.reader.levels + 10

abbrev pub decreases-components::read_fields : goal.decreases-components::read_fields
decreases-components::read_fields l = 30 * l.reader.levels + 28

abbrev pub decreases-components::read_row : goal.decreases-components::read_row
decreases-components::read_row l = 30 * l.reader.levels + 27

abbrev pub decreases-components::read_members : goal.decreases-components::read_members
decreases-components::read_members l = 30 * l.reader.levels + 20

abbrev pub decreases-components::read_member : goal.decreases-components::read_member
decreases-components::read_member l = 30 * l.reader.levels + 19

abbrev pub decreases-components::read_present : goal.decreases-components::read_present
decreases-components::read_present l = 30 * l.reader.levels + 18

abbrev pub decreases-components::read_component : goal.decreases-components::read_component
decreases-components::read_component l = 30 * l.reader.levels + 17

abbrev pub decreases-additions::read_extension : goal.decreases-additions::read_extension
decreases-additions::read_extension l = 30 * l.reader.levels + 26

abbrev pub decreases-additions::read_additions : goal.decreases-additions::read_additions
decreases-additions::read_additions l = 30 * l.reader.levels + 25

abbrev pub decreases-additions::read_addition : goal.decreases-additions::read_addition
decreases-additions::read_addition l = 30 * l.reader.levels + 24

abbrev pub decreases-additions::read_added : goal.decreases-additions::read_added
decreases-additions::read_added l = 30 * l.reader.levels + 17

abbrev pub decreases-additions::read_group : goal.decreases-additions::read_group
decreases-additions::read_group l = 30 * l.reader.levels + 23

abbrev pub decreases-additions::read_group_members : goal.decreases-additions::read_group_members
decreases-additions::read_group_members l = 30 * l.reader.levels + 22

abbrev pub decreases-elements::read_each : goal.decreases-elements::read_each
decreases-elements::read_each l = 30 * l.reader.levels + 28

abbrev pub decreases-elements::read_list : goal.decreases-elements::read_list
decreases-elements::read_list l = 30 * l.reader.levels + 27

abbrev pub decreases-elements::read_parts : goal.decreases-elements::read_parts
decreases-elements::read_parts l = 30 * l.reader.levels + 26

abbrev pub decreases-elements::read_part : goal.decreases-elements::read_part
decreases-elements::read_part l = 30 * l.reader.levels + 25

abbrev pub decreases-elements::read_elements : goal.decreases-elements::read_elements
decreases-elements::read_elements l = 30 * l.reader.levels + 24

abbrev pub decreases-elements::read_element : goal.decreases-elements::read_element
decreases-elements::read_element l = 30 * l.reader.levels + 23

abbrev pub invariant-components::read_members-loop-i : goal.invariant-components::read_members-loop-i
invariant-components::read_members-loop-i l =
    (run_members l.reader.code.now l.reader.levels (run_value l.reader.code.now l.reader.levels) (components (kind_at l.reader.code.now l.reader.id.index)) (drop l.i l.sent) (row_of_values l.row.items) l.progress.skipped l.progress.left (bits_left l.bits)
    ≡ run_members l.reader.code.now l.reader.levels (run_value l.reader.code.now l.reader.levels) (components (kind_at l.reader.code.now l.reader.id.index)) l.sent (row_of_values l.fn.row.items) l.fn.progress.skipped l.fn.progress.left (bits_left l.fn.bits))
    × Advanced l.fn.progress (bits_left l.fn.bits) l.progress (bits_left l.bits)
    × (length l.row.items ≡ length l.fn.row.items)

abbrev pub invariant-additions::read_additions-loop-i : goal.invariant-additions::read_additions-loop-i
invariant-additions::read_additions-loop-i l =
    (run_additions l.reader.code.now l.reader.levels (run_value l.reader.code.now l.reader.levels) (components (kind_at l.reader.code.now l.reader.id.index)) (drop l.i l.additions.steps.now) l.map (row_of_values l.row.items) l.progress.skipped l.progress.left (bits_left l.bits)
    ≡ run_additions l.reader.code.now l.reader.levels (run_value l.reader.code.now l.reader.levels) (components (kind_at l.reader.code.now l.reader.id.index)) l.additions.steps.now l.additions.map.now (row_of_values l.fn.row.items) l.fn.progress.skipped l.fn.progress.left (bits_left l.fn.bits))
    × Advanced l.fn.progress (bits_left l.fn.bits) l.progress (bits_left l.bits)
    × (length l.row.items ≡ length l.fn.row.items)

abbrev pub invariant-elements::read_parts-loop-more : goal.invariant-elements::read_parts-loop-more
invariant-elements::read_parts-loop-more l =
    IsSoFar (run_value l.reader.code.now l.reader.levels l.reader.id.index) l.size.sorted (size_fault (constraint_of l.size.constraint.now) l.size.outside)
    (run_parts (run_value l.reader.code.now l.reader.levels l.reader.id.index) l.size.sorted (size_fault (constraint_of l.size.constraint.now) l.size.outside) (suc l.fn.progress.left) true (gathered l.fn.list) l.fn.progress.skipped l.fn.progress.left (bits_left l.fn.bits))
    l.more l.full (gathered l.list) l.progress (bits_left l.bits)
    × Advanced l.fn.progress (bits_left l.fn.bits) l.progress (bits_left l.bits)

abbrev pub decreases-elements::read_parts-loop-more : goal.decreases-elements::read_parts-loop-more
decreases-elements::read_parts-loop-more l = l.progress.left + cond l.more 1 0

abbrev pub invariant-elements::read_elements-loop-i : goal.invariant-elements::read_elements-loop-i
invariant-elements::read_elements-loop-i l =
    (run_elements (run_value l.reader.code.now l.reader.levels l.reader.id.index) l.batch.sorted (l.batch.count - l._i) (gathered l.list) l.progress.skipped l.progress.left (bits_left l.bits)
    ≡ run_elements (run_value l.reader.code.now l.reader.levels l.reader.id.index) l.batch.sorted l.batch.count (gathered l.fn.list) l.fn.progress.skipped l.fn.progress.left (bits_left l.fn.bits))
    × Advanced l.fn.progress (bits_left l.fn.bits) l.progress (bits_left l.bits)
    × (l.progress.left + l._i ≤ l.fn.progress.left)
