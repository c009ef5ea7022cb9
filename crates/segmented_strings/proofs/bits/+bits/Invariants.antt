use Rattle.std.proofs.Common.{◌+◌, ◌*◌, length}
use Rattle.segmented_strings.proofs.BitSteps.{BitsSoFar}
use Rattle.segmented_strings.proofs.bits.+bits.Given as goal

abbrev pub decreases-add_bits : goal.decreases-add_bits
decreases-add_bits l = 2 * l.room + 1

abbrev pub decreases-add_bit_segment : goal.decreases-add_bit_segment
decreases-add_bit_segment l = 2 * l.room

abbrev pub invariant-add_bits-loop-added : goal.invariant-add_bits-loop-added
invariant-add_bits-loop-added l = BitsSoFar l.fn.room l.contents l.rest l.fn.out.items l.out.items

abbrev pub decreases-add_bits-loop-added : goal.decreases-add_bits-loop-added
decreases-add_bits-loop-added l = length l.rest
