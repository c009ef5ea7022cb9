use Rattle.std.proofs.Common.{◌≡◌, take, flat_map}
use Rattle.value_notations.specs.Leaves.{bits_of_digit}
use Rattle.value_notations.proofs.bit_strings.hex_bits.Given as goal

abbrev pub invariant-loop-digit : goal.invariant-loop-digit
invariant-loop-digit l = l.bits.items ≡ flat_map bits_of_digit (take l.digit-index l.digits)
