use Rattle.std.proofs.Common.{◌≡◌, ◌==◌, take, map}
use Rattle.value_notations.proofs.bit_strings.binary_bits.Given as goal

abbrev pub invariant-loop-digit : goal.invariant-loop-digit
invariant-loop-digit l = l.bits.items ≡ map (λ d. d == 1) (take l.digit-index l.digits)
