use Rattle.std.proofs.Common.{◌+◌, ◌*◌, List, ℕ, length, drop}
use Rattle.std.specs.Prelude.{IsTrue}
use Rattle.asn_base.specs.Abstract.{row_of_options}
use Rattle.asn_base.specs.Types.{Component}
use Rattle.views.specs.Tree.{count, element_values}
use Rattle.der_check.specs.Strict.{ElementsGiven, SequenceGiven, components_of}
use Rattle.der_check.proofs.Orders.{AscendsFrom}
use Rattle.der_check.proofs.Placing.{AreLeft}
use Rattle.der_check.proofs.Passing.{SequencePasses, ElementsPass}
use Rattle.der_check.proofs.quick.+quick.Given as goal

abbrev pub decreases-quick_steps : goal.decreases-quick_steps
decreases-quick_steps l = 10 * l.levels

abbrev pub decreases-quick_value : goal.decreases-quick_value
decreases-quick_value l = 10 * l.levels + 1

abbrev pub decreases-quick_member : goal.decreases-quick_member
decreases-quick_member l = 10 * l.at.levels + 2

abbrev pub decreases-quick_next : goal.decreases-quick_next
decreases-quick_next l = 10 * l.at.levels + 3

abbrev pub decreases-quick_sequence : goal.decreases-quick_sequence
decreases-quick_sequence l = 10 * l.at.levels + 4

abbrev pub decreases-quick_elements : goal.decreases-quick_elements
decreases-quick_elements l = 10 * l.at.levels + 4

abbrev pub decreases-quick_fields : goal.decreases-quick_fields
decreases-quick_fields l = 10 * l.at.levels + 5

abbrev pub decreases-quick_list : goal.decreases-quick_list
decreases-quick_list l = 10 * l.at.levels + 5

abbrev pub decreases-quick_contents : goal.decreases-quick_contents
decreases-quick_contents l = 10 * l.at.levels + 6

abbrev pub invariant-quick_sequence-loop-i : goal.invariant-quick_sequence-loop-i
invariant-quick_sequence-loop-i l = (cs : List Component) (xs us : List (List ℕ))
    → SequenceGiven l.at.judge.code.now l.at.id.index l.at.levels l.at.steps.now (components_of l.size l.fn.members) cs xs us l.contents
    → AreLeft l.i l.fn.members l.left
    × SequencePasses l.at.judge.code.now l.at.levels cs (row_of_options (components_of l.size l.fn.members)) xs us l.i (drop l.i (components_of l.size l.fn.members)) l.rest (length l.contents)

abbrev pub invariant-quick_elements-loop-part : goal.invariant-quick_elements-loop-part
invariant-quick_elements-loop-part l = (xs : List (List ℕ))
    → ElementsGiven l.at.judge.code.now l.id.index l.at.levels (element_values l.fn.members) xs l.contents
    → ElementsPass l.at.judge.code.now l.id.index l.at.levels (element_values l.fn.members) xs (element_values l.left) l.rest (length l.contents)
    × (IsTrue l.sorted → AscendsFrom xs l.last l.rest (length l.contents))

abbrev pub decreases-quick_elements-loop-part : goal.decreases-quick_elements-loop-part
decreases-quick_elements-loop-part l = count l.left
