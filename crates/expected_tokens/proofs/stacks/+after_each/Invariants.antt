use Rattle.std.proofs.Common.{length}
use Rattle.expected_tokens.proofs.stacks.+after_each.Given as goal

abbrev pub decreases-after_each : goal.decreases-after_each
decreases-after_each l = length l.stacks.now
