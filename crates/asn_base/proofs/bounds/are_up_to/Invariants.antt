use Rattle.std.proofs.Common.{drop, map}
use Rattle.std.specs.Prelude.{◌↔◌}
use Rattle.asn_base.specs.Seen.{range_of}
use Rattle.asn_base.specs.proving.Bounding.{AreAllUpTo}
use Rattle.asn_base.proofs.bounds.are_up_to.Given as goal

abbrev pub invariant-loop-i : goal.invariant-loop-i
invariant-loop-i l = AreAllUpTo l.floor (map range_of l.ranges) l.greatest ↔ AreAllUpTo l.floor (drop l.i (map range_of l.ranges)) l.greatest
