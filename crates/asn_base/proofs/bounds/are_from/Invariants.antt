use Rattle.std.proofs.Common.{drop, map}
use Rattle.std.specs.Prelude.{◌↔◌}
use Rattle.asn_base.specs.Seen.{range_of}
use Rattle.asn_base.specs.proving.Bounding.{AreAllFrom}
use Rattle.asn_base.proofs.bounds.are_from.Given as goal

abbrev pub invariant-loop-i : goal.invariant-loop-i
invariant-loop-i l = AreAllFrom l.floor (map range_of l.ranges) l.least ↔ AreAllFrom l.floor (drop l.i (map range_of l.ranges)) l.least
