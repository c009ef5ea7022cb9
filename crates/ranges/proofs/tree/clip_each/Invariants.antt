use Rattle.std.proofs.Common.{◌≡◌, map, take}
use Rattle.asn_base.specs.Seen.{range_of}
use Rattle.asn_base.specs.Trees.{ranges_in}
use Rattle.ranges.specs.proving.Trees.{within_each}
use Rattle.ranges.proofs.tree.clip_each.Given as goal

-- what is left within the others that were taken
abbrev pub invariant-loop-i : goal.invariant-loop-i
invariant-loop-i l = ranges_in l.all ≡ within_each (map range_of (take l.i l.others)) (ranges_in l.link)
