use Rattle.std.proofs.Common.{◌≡◌, ◌-◌, length}
use Rattle.views.specs.Tree.{component}
use Rattle.views.specs.Seen.{side_lists, AreSpelled, members_of}
use Rattle.views.proofs.node_slices.find_from.Given as goal

abbrev pub invariant-loop-at : goal.invariant-loop-at
invariant-loop-at l =
    AreSpelled (side_lists l.lists) l.nodes l.at
    × (component (members_of (side_lists l.lists) l.nodes l.from) l.wanted ≡ component (members_of (side_lists l.lists) l.nodes l.at) l.wanted)

abbrev pub decreases-loop-at : goal.decreases-loop-at
decreases-loop-at l = length l.nodes - l.at
