use Rattle.std.proofs.Common.{length}
use Rattle.primitive_reader.proofs.septets.+read_septets.Given as goal

abbrev pub decreases-read_septets : goal.decreases-read_septets
decreases-read_septets l = length l.octets.now
