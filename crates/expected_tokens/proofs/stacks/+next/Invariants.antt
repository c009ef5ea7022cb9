use Rattle.std.proofs.Common.{length}
use Rattle.expected_tokens.proofs.stacks.+next.Given as goal

abbrev pub decreases-next : goal.decreases-next
decreases-next l = length l.stack.now
