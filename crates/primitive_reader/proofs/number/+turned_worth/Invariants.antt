use Rattle.std.proofs.Common.{length}
use Rattle.primitive_reader.proofs.number.+turned_worth.Given as goal

abbrev pub decreases-turned_worth : goal.decreases-turned_worth
decreases-turned_worth l = length l.octets.now
