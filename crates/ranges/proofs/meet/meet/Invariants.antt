use Rattle.std.proofs.Common.{◌+◌, ◌-◌, ◌++◌, ◌≤◌, map, drop, length, List}
use Rattle.asn_base.specs.Types.{Range}
use Rattle.asn_base.specs.Seen.{range_of}
use Rattle.ranges.specs.proving.Meeting.{Meets}
use Rattle.ranges.proofs.meet.meet.Given as goal

-- what the rests meet in completes the whole
abbrev pub invariant-loop-i : goal.invariant-loop-i
invariant-loop-i l =
    (l.i ≤ length l.left)
    × (l.j ≤ length l.right)
    × ((rest : List Range)
    → Meets (map range_of (drop l.i l.left)) (map range_of (drop l.j l.right)) rest
    → Meets (map range_of l.left) (map range_of l.right) (map range_of l.both.items ++ rest))

abbrev pub decreases-loop-i : goal.decreases-loop-i
decreases-loop-i l = (length l.left - l.i) + (length l.right - l.j)
