use Rattle.std.proofs.Common.{◌+◌, cond, length}
use Rattle.bits.specs.Left.{bits_left}
use Rattle.packed_readings.specs.Code.{test_of}
use Rattle.packed_readings.proofs.Light.{AreFree}
use Rattle.packed_readings.proofs.free.count_parts.Given as goal

abbrev pub invariant-loop-more : goal.invariant-loop-more
invariant-loop-more l = AreFree (test_of l.total) (bits_left l.fn.bits) l.more l.full l.count (bits_left l.bits)

abbrev pub decreases-loop-more : goal.decreases-loop-more
decreases-loop-more l = length (bits_left l.bits) + cond l.more 1 0
