use Rattle.std.proofs.Common.{◌≡◌, map, drop}
use Rattle.asn_base.specs.Seen.{named_bit_of}
use Rattle.later_versions.proofs.bits.are_same.Given as goal

abbrev pub invariant-loop-i : goal.invariant-loop-i
invariant-loop-i l =
    map named_bit_of (drop l.i l.bits) ≡ map named_bit_of (drop l.i l.others)
    → map named_bit_of l.bits ≡ map named_bit_of l.others
