use Rattle.std.proofs.Common.{◌+◌, ◌*◌, ◌≤◌, map}
use Rattle.std.specs.Prelude.{option_map}
use Rattle.asn_base.specs.Abstract.{abstract}
use Rattle.asn_base.specs.Seen.{component_of}
use Rattle.asn_base.proofs.Comparing.{FieldsFrom, PairsFrom, RarerTo, CountFrom}
use Rattle.asn_base.proofs.same.+alike.Given as goal

abbrev pub decreases-are_alike : goal.decreases-are_alike
decreases-are_alike l = 10 * l.within.levels

abbrev pub decreases-are_alike_by : goal.decreases-are_alike_by
decreases-are_alike_by l = 10 * l.within.levels + 8

abbrev pub decreases-are_alike_fields : goal.decreases-are_alike_fields
decreases-are_alike_fields l = 10 * l.within.levels + 4

abbrev pub decreases-are_alike_at : goal.decreases-are_alike_at
decreases-are_alike_at l = 10 * l.within.levels + 3

abbrev pub decreases-is_default_alike : goal.decreases-is_default_alike
decreases-is_default_alike l = 10 * l.within.levels + 2

abbrev pub decreases-are_alike_in_order : goal.decreases-are_alike_in_order
decreases-are_alike_in_order l = 10 * l.within.levels + 2

abbrev pub decreases-are_alike_in_any : goal.decreases-are_alike_in_any
decreases-are_alike_in_any l = 10 * l.within.levels + 4

abbrev pub decreases-is_rarer : goal.decreases-is_rarer
decreases-is_rarer l = 10 * l.within.levels + 3

abbrev pub decreases-count : goal.decreases-count
decreases-count l = 10 * l.within.levels + 2

abbrev pub invariant-are_alike_fields-loop-i : goal.invariant-are_alike_fields-loop-i
invariant-are_alike_fields-loop-i l = FieldsFrom l.within.schema.now l.within.levels (map component_of l.components) (map (option_map abstract) l.first) (map (option_map abstract) l.second) l.i

abbrev pub invariant-are_alike_in_order-loop-i : goal.invariant-are_alike_in_order-loop-i
invariant-are_alike_in_order-loop-i l = PairsFrom l.within.schema.now l.within.levels l.element.index (map abstract l.first) (map abstract l.second) l.i

abbrev pub invariant-are_alike_in_any-loop-i : goal.invariant-are_alike_in_any-loop-i
invariant-are_alike_in_any-loop-i l = RarerTo l.within.schema.now l.within.levels l.element.index (map abstract l.first) (map abstract l.second) l.i

abbrev pub invariant-count-loop-i : goal.invariant-count-loop-i
invariant-count-loop-i l = (l.found ≤ l.i) × CountFrom l.within.schema.now l.within.levels l.element.index (abstract l.value) (map abstract l.elements) l.found l.i

abbrev pub decreases-are_alike_choices : goal.decreases-are_alike_choices
decreases-are_alike_choices l = 10 * l.within.levels + 7

abbrev pub decreases-is_alike_chosen : goal.decreases-is_alike_chosen
decreases-is_alike_chosen l = 10 * l.within.levels + 6
