use Rattle.std.proofs.Common.{◌≡◌, ◌++◌, length}
use Rattle.bits.specs.Left.{bits_left}
use Rattle.packed_reader.proofs.presence.read_bits.Given as goal

abbrev pub invariant-loop-i : goal.invariant-loop-i
invariant-loop-i l = (l.out.items ++ bits_left l.bits ≡ bits_left l.fn.bits) × (length l.out.items ≡ l._i)
