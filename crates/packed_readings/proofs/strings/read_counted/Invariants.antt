use Rattle.std.proofs.Common.{◌+◌, cond, length}
use Rattle.bits.specs.Left.{bits_left}
use Rattle.packed_readings.specs.Counts.{counted_from}
use Rattle.packed_readings.specs.Code.{several_of, test_of}
use Rattle.packed_readings.proofs.Counted.{IsSoFar}
use Rattle.packed_readings.proofs.strings.read_counted.Given as goal

abbrev pub invariant-loop-more : goal.invariant-loop-more
invariant-loop-more l =
    IsSoFar (test_of l.total) (several_of l.form) (counted_from (test_of l.total) (several_of l.form) (bits_left l.fn.bits)) l.more l.full l.out.items (bits_left l.bits)

abbrev pub decreases-loop-more : goal.decreases-loop-more
decreases-loop-more l = length (bits_left l.bits) + cond l.more 1 0
