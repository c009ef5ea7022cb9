use Rattle.std.proofs.Common.{map}
use Rattle.asn_base.specs.Seen.{named_bit_of}
use Rattle.later_versions.proofs.Placing.{PlacedTo}
use Rattle.later_versions.proofs.bits.placed.Given as goal

abbrev pub invariant-loop-i : goal.invariant-loop-i
invariant-loop-i l = PlacedTo (map named_bit_of l.bits) l.places l.i
