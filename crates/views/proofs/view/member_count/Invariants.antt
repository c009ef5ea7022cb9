use Rattle.std.proofs.Common.{◌≤◌, ◌-◌, length}
use Rattle.views.specs.Tree.{ViewMembers}
use Rattle.views.specs.Seen.{side_lists, Left}
use Rattle.views.proofs.view.member_count.Given as goal

abbrev pub invariant-loop-at : goal.invariant-loop-at
invariant-loop-at l = ((left : ViewMembers) × Left (side_lists l.lists) l.nodes l.at left) × (l.count ≤ l.at) × (l.at ≤ length l.nodes)

abbrev pub decreases-loop-at : goal.decreases-loop-at
decreases-loop-at l = length l.nodes - l.at
