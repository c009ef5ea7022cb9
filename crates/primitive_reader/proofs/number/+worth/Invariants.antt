use Rattle.std.proofs.Common.{length}
use Rattle.primitive_reader.proofs.number.+worth.Given as goal

abbrev pub decreases-worth : goal.decreases-worth
decreases-worth l = length l.octets.now
