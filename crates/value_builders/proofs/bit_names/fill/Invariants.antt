use Rattle.std.proofs.Common.{◌≡◌, take}
use Rattle.value_builders.proofs.bit_names.fill.Given as goal

abbrev pub invariant-loop-bit : goal.invariant-loop-bit
invariant-loop-bit l = l.buffer ≡ take l.bit-index l.bits
