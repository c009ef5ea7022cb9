use Rattle.std.proofs.Common.{length}
use Rattle.der_check.proofs.heads.+within_heads.Given as goal

abbrev pub decreases-within_heads : goal.decreases-within_heads
decreases-within_heads l = length l.steps.now
