use Rattle.std.proofs.Common.{◌≤◌, ◌+◌, ◌*◌, ◌++◌, [], codes, map, string_bytes}
use Rattle.asn_base.specs.Abstract.{placed, row_of_options}
use Rattle.asn_base.specs.Seen.{component_of}
use Rattle.asn_base.specs.Typed.{members, nodes, row_nodes}
use Rattle.value_text.specs.Print.{print_elements, print_fields}
use Rattle.value_text.proofs.Fields.{Listed, Printed}
use Rattle.value_text.proofs.value.+printing.Given as goal

abbrev pub decreases-print_node : goal.decreases-print_node
decreases-print_node g l = 2 * nodes (g.N.ValueNode.value_of l.node.now)

abbrev pub decreases-print_fields : goal.decreases-print_fields
decreases-print_fields g l = 2 * row_nodes (row_of_options (placed l.size (λ i. g.N.ValueNode.part_at l.fields i))) + 1

abbrev pub decreases-print_elements : goal.decreases-print_elements
decreases-print_elements g l = 2 * row_nodes (g.N.ValueNode.row_of l.elements) + 1

abbrev pub invariant-print_elements-loop-node : goal.invariant-print_elements-loop-node
invariant-print_elements-loop-node g l =
    (row_nodes (g.N.ValueNode.row_of l.left) ≤ row_nodes (g.N.ValueNode.row_of l.fn.elements))
    × Listed l.schema l.element.index l.first (g.N.ValueNode.row_of l.left) (string_bytes l.out)
    (string_bytes l.fn.out ++ (codes "{" ++ print_elements l.schema l.element.index [] (g.N.ValueNode.row_of l.fn.elements)))

abbrev pub decreases-print_elements-loop-node : goal.decreases-print_elements-loop-node
decreases-print_elements-loop-node g l = members (g.N.ValueNode.row_of l.left)

abbrev pub invariant-print_fields-loop-i : goal.invariant-print_fields-loop-i
invariant-print_fields-loop-i g l =
    Printed l.schema l.components l.size (λ i. g.N.ValueNode.part_at l.fn.fields i) (λ i. g.N.ValueNode.part_at l.left i) l.i l.first (string_bytes l.out)
    (string_bytes l.fn.out ++ (codes "{" ++ print_fields l.schema (map component_of l.components) [] (row_of_options (placed l.size (λ i. g.N.ValueNode.part_at l.fn.fields i)))))
