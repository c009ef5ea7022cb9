use Rattle.std.proofs.Common.{◌+◌, ◌*◌, length}
use Rattle.segmented_strings.proofs.OctetSteps.{OctetsSoFar}
use Rattle.segmented_strings.proofs.joined.+octets.Given as goal

abbrev pub decreases-add_octets : goal.decreases-add_octets
decreases-add_octets l = 2 * l.room + 1

abbrev pub decreases-add_segment : goal.decreases-add_segment
decreases-add_segment l = 2 * l.room

abbrev pub invariant-add_octets-loop-rest : goal.invariant-add_octets-loop-rest
invariant-add_octets-loop-rest l = OctetsSoFar l.fn.room l.contents l.rest l.fn.out.items l.out.items

abbrev pub decreases-add_octets-loop-rest : goal.decreases-add_octets-loop-rest
decreases-add_octets-loop-rest l = length l.rest
