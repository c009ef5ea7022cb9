use Rattle.std.proofs.Common.{◌≡◌, None, map, take}
use Rattle.asn_base.specs.Seen.{named_bit_of}
use Rattle.value_builders.specs.Named.{bit_of}
use Rattle.value_builders.proofs.bit_names.bit_place.Given as goal

abbrev pub invariant-loop-bit : goal.invariant-loop-bit
invariant-loop-bit l = bit_of (take l.bit-index (map named_bit_of l.bits)) l.name ≡ None
