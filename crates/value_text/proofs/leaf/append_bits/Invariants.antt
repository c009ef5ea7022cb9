use Rattle.std.proofs.Common.{◌≡◌, ◌++◌, drop, string_bytes}
use Rattle.value_text.specs.Print.{bit_digits}
use Rattle.value_text.proofs.leaf.append_bits.Given as goal

abbrev pub invariant-loop-i : goal.invariant-loop-i
invariant-loop-i l = string_bytes l.out ++ bit_digits (drop l.i l.bits) ≡ string_bytes l.fn.out ++ bit_digits l.bits
