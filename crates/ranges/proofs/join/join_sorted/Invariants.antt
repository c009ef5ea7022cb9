use Rattle.std.proofs.Common.{◌++◌, map, drop, List}
use Rattle.asn_base.specs.Types.{Range}
use Rattle.asn_base.specs.Seen.{range_of}
use Rattle.ranges.specs.proving.Joining.{Joins}
use Rattle.ranges.proofs.join.join_sorted.Given as goal

-- what the last range and the rest are joined to completes the whole
abbrev pub invariant-loop-range : goal.invariant-loop-range
invariant-loop-range l =
    (rest : List Range)
    → Joins (range_of l.last) (map range_of (drop l.range-index l.others)) rest
    → Joins (range_of l.fn.first) (map range_of l.others) (map range_of l.all.items ++ rest)
