use Rattle.std.proofs.Common.{length}
use Rattle.expected_tokens.proofs.stacks.+by_rules.Given as goal

abbrev pub decreases-by_rules : goal.decreases-by_rules
decreases-by_rules l = length l.rules.now
