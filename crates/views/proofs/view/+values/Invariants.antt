use Rattle.std.proofs.Common.{◌≡◌, ◌+◌, ◌-◌, ◌*◌, length, map}
use Rattle.std.specs.Prelude.{option_map}
use Rattle.asn_base.specs.Abstract.{abstract}
use Rattle.views.specs.Tree.{ViewMembers, element_values}
use Rattle.views.specs.Seen.{side_lists, SpellMembers, Left}
use Rattle.views.proofs.Filled.{AreFilled, onto}
use Rattle.views.proofs.view.+values.Given as goal

abbrev pub decreases-value : goal.decreases-value
decreases-value a = 2 * length a.nodes.now

abbrev pub decreases-fields : goal.decreases-fields
decreases-fields a = 2 * length a.nodes.now + 1

abbrev pub decreases-elements : goal.decreases-elements
decreases-elements a = 2 * length a.nodes.now + 1

abbrev pub invariant-fields-loop-at : goal.invariant-fields-loop-at
invariant-fields-loop-at l =
    (ms : ViewMembers) → SpellMembers (side_lists l.lists) l.nodes ms
    → (left : ViewMembers) × Left (side_lists l.lists) l.nodes l.at left × AreFilled l.size ms left (map (option_map abstract) l.values.items)

abbrev pub decreases-fields-loop-at : goal.decreases-fields-loop-at
decreases-fields-loop-at l = length l.nodes - l.at

abbrev pub invariant-elements-loop-at : goal.invariant-elements-loop-at
invariant-elements-loop-at l =
    (ms : ViewMembers) → SpellMembers (side_lists l.lists) l.nodes ms
    → (left : ViewMembers) × Left (side_lists l.lists) l.nodes l.at left × (element_values ms ≡ onto (map abstract l.values.items) (element_values left))

abbrev pub decreases-elements-loop-at : goal.decreases-elements-loop-at
decreases-elements-loop-at l = length l.nodes - l.at
