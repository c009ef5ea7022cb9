use Rattle.std.proofs.Common.{length}
use Rattle.primitive_reader.proofs.number.+short_worth.Given as goal

abbrev pub decreases-short_worth : goal.decreases-short_worth
decreases-short_worth l = length l.octets.now
