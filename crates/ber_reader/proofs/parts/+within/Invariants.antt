use Rattle.std.proofs.Common.{length}
use Rattle.ber_reader.proofs.parts.+within.Given as goal

abbrev pub decreases-within : goal.decreases-within
decreases-within l = length l.steps.now
