use Rattle.std.proofs.Common.{length}
use Rattle.primitive_reader.proofs.number.+short_turned.Given as goal

abbrev pub decreases-short_turned : goal.decreases-short_turned
decreases-short_turned l = length l.octets.now
