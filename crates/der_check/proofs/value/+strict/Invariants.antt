use Rattle.std.proofs.Common.{◌+◌, ◌*◌, List, ℕ, length, drop}
use Rattle.asn_base.specs.Abstract.{row_of_options}
use Rattle.asn_base.specs.Types.{Component}
use Rattle.views.specs.Tree.{count, element_values}
use Rattle.der_check.specs.Strict.{ElementsGiven, SequenceGiven, SetGiven, components_of}
use Rattle.der_check.proofs.Placing.{AreLeft}
use Rattle.der_check.proofs.Taking.{SequenceLeft, KnownLeft, ElementsLeft}
use Rattle.der_check.proofs.Finding.{IsFoundSoFar}
use Rattle.der_check.proofs.value.+strict.Given as goal

abbrev pub decreases-strict_value : goal.decreases-strict_value
decreases-strict_value l = 10 * l.levels

abbrev pub decreases-strict_contents : goal.decreases-strict_contents
decreases-strict_contents l = 10 * l.at.levels + 9

abbrev pub decreases-strict_fields : goal.decreases-strict_fields
decreases-strict_fields l = 10 * l.at.levels + 8

abbrev pub decreases-strict_sequence : goal.decreases-strict_sequence
decreases-strict_sequence l = 10 * l.at.levels + 6

abbrev pub decreases-strict_next : goal.decreases-strict_next
decreases-strict_next l = 10 * l.at.levels + 4

abbrev pub decreases-strict_set : goal.decreases-strict_set
decreases-strict_set l = 10 * l.at.levels + 6

abbrev pub decreases-strict_known : goal.decreases-strict_known
decreases-strict_known l = 10 * l.at.levels + 4

abbrev pub decreases-strict_member : goal.decreases-strict_member
decreases-strict_member l = 10 * l.at.levels + 2

abbrev pub decreases-strict_list : goal.decreases-strict_list
decreases-strict_list l = 10 * l.at.levels + 8

abbrev pub decreases-strict_elements : goal.decreases-strict_elements
decreases-strict_elements l = 10 * l.levels + 6

abbrev pub invariant-strict_sequence-loop-i : goal.invariant-strict_sequence-loop-i
invariant-strict_sequence-loop-i l = (cs : List Component) (xs us : List (List ℕ))
    → SequenceGiven l.at.judge.code.now l.at.id.index l.at.levels l.at.steps.now (components_of l.size l.fn.members) cs xs us l.contents
    → AreLeft l.i l.fn.members l.left
    × SequenceLeft l.at.judge.code.now l.at.levels cs (row_of_options (components_of l.size l.fn.members)) xs us l.i (drop l.i (components_of l.size l.fn.members)) l.whole l.rest (length l.contents)

abbrev pub invariant-strict_set-loop-i : goal.invariant-strict_set-loop-i
invariant-strict_set-loop-i l = (cs : List Component) (xs zs us ys : List (List ℕ))
    → SetGiven l.at.judge.code.now l.at.id.index l.at.levels l.at.steps.now (components_of l.size l.fn.members) cs xs zs us ys l.contents
    → AreLeft l.i l.fn.members l.left
    × KnownLeft l.at.judge.code.now l.at.levels cs (row_of_options (components_of l.size l.fn.members)) xs ys l.i (drop l.i (components_of l.size l.fn.members)) l.whole l.breach
    × IsFoundSoFar l.at.judge.code.now (components_of l.size l.fn.members) cs xs zs us ys (length l.contents) l.none_else l.breach

abbrev pub invariant-strict_elements-loop-part : goal.invariant-strict_elements-loop-part
invariant-strict_elements-loop-part l = (xs : List (List ℕ))
    → ElementsGiven l.judge.code.now l.id.index l.levels (element_values l.fn.members) xs l.contents
    → ElementsLeft l.judge.code.now l.id.index l.levels (element_values l.fn.members) xs (element_values l.left) l.whole l.rest (length l.contents)

abbrev pub decreases-strict_elements-loop-part : goal.decreases-strict_elements-loop-part
decreases-strict_elements-loop-part l = count l.left
