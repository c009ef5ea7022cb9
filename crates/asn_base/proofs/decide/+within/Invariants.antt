use Rattle.std.proofs.Common.{◌+◌, ◌*◌}
use Rattle.asn_base.specs.Typed.{members}
use Rattle.asn_base.proofs.Judged.{Judged, Listed}
use Rattle.asn_base.proofs.decide.+within.Given as goal

abbrev pub decreases-is_judged : goal.decreases-is_judged
decreases-is_judged g l = 10 * l.known.levels + 1

abbrev pub decreases-is_any : goal.decreases-is_any
decreases-is_any g l = 10 * l.known.levels

abbrev pub decreases-holds : goal.decreases-holds
decreases-holds g l = 10 * l.known.levels + 5

abbrev pub decreases-are_fields : goal.decreases-are_fields
decreases-are_fields g l = 10 * l.known.levels + 4

abbrev pub decreases-are_components : goal.decreases-are_components
decreases-are_components g l = 10 * l.known.levels + 3

abbrev pub decreases-is_component : goal.decreases-is_component
decreases-is_component g l = 10 * l.known.levels + 2

abbrev pub decreases-are_elements : goal.decreases-are_elements
decreases-are_elements g l = 10 * l.known.levels + 2

abbrev pub decreases-is_chosen : goal.decreases-is_chosen
decreases-is_chosen g l = 10 * l.known.levels + 2

abbrev pub invariant-are_components-loop-i : goal.invariant-are_components-loop-i
invariant-are_components-loop-i g l =
    Judged l.known.types.now l.known.levels l.components (λ i. g.N.ValueNode.part_at l.fields i) (λ i. g.N.ValueNode.part_at l.rest i) l.i l.fn.left l.left

abbrev pub invariant-are_elements-loop-node : goal.invariant-are_elements-loop-node
invariant-are_elements-loop-node g l =
    Listed l.known.types.now l.known.levels l.element.index (g.N.ValueNode.row_of l.fn.elements) (g.N.ValueNode.row_of l.rest) l.fn.left l.left

abbrev pub decreases-are_elements-loop-node : goal.decreases-are_elements-loop-node
decreases-are_elements-loop-node g l = members (g.N.ValueNode.row_of l.rest)
