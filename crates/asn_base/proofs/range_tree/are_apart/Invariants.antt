use Rattle.std.proofs.Common.{drop, map}
use Rattle.asn_base.specs.Seen.{range_of}
use Rattle.asn_base.specs.Trees.{AreApart}
use Rattle.asn_base.proofs.range_tree.are_apart.Given as goal

abbrev pub invariant-loop-i : goal.invariant-loop-i
invariant-loop-i l = AreApart (drop l.i (map range_of l.ranges)) → AreApart (map range_of l.ranges)
