use Rattle.std.proofs.Common.{length}
use Rattle.expected_tokens.proofs.stacks.+can_be_absent.Given as goal

abbrev pub decreases-can_be_absent : goal.decreases-can_be_absent
decreases-can_be_absent l = length l.rules.now
