use Rattle.std.proofs.Common.{◌≡◌, ◌≤◌, ◌+◌, ◌-◌, length}
use Rattle.views.specs.Tree.{count}
use Rattle.views.specs.Seen.{side_lists, AreSpelled, members_of}
use Rattle.views.proofs.node_slices.count_from.Given as goal

abbrev pub invariant-loop-at : goal.invariant-loop-at
invariant-loop-at l =
    (l.count ≤ l.at)
    × AreSpelled (side_lists l.lists) l.nodes l.at
    × (count (members_of (side_lists l.lists) l.nodes l.from) ≡ l.count + count (members_of (side_lists l.lists) l.nodes l.at))

abbrev pub decreases-loop-at : goal.decreases-loop-at
decreases-loop-at l = length l.nodes - l.at
