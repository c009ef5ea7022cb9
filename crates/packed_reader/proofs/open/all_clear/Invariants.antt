use Rattle.std.proofs.Common.{◌≡◌, length}
use Rattle.bits.specs.Left.{bits_left}
use Rattle.packed_reader.specs.Structures.{all_clear}
use Rattle.packed_reader.proofs.open.all_clear.Given as goal

abbrev pub invariant-loop-rest : goal.invariant-loop-rest
invariant-loop-rest l = all_clear (bits_left l.rest) ≡ all_clear (bits_left l.bits)

abbrev pub decreases-loop-rest : goal.decreases-loop-rest
decreases-loop-rest l = length (bits_left l.rest)
