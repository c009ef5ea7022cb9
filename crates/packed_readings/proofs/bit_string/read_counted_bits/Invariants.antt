use Rattle.std.proofs.Common.{◌+◌, cond, length}
use Rattle.bits.specs.Left.{bits_left}
use Rattle.packed_readings.specs.Counts.{counted_from, several_bits}
use Rattle.packed_readings.specs.Code.{test_of}
use Rattle.packed_readings.proofs.BitsRead.{AreSoFar}
use Rattle.packed_readings.proofs.bit_string.read_counted_bits.Given as goal

abbrev pub invariant-loop-more : goal.invariant-loop-more
invariant-loop-more l =
    AreSoFar (test_of l.total) (counted_from (test_of l.total) several_bits (bits_left l.fn.bits)) l.more l.full l.out.items l.unused (bits_left l.bits)

abbrev pub decreases-loop-more : goal.decreases-loop-more
decreases-loop-more l = length (bits_left l.bits) + cond l.more 1 0
