use Rattle.std.proofs.Common.{length}
use Rattle.packed_code.proofs.routine.+push_additions.Given as goal

abbrev pub decreases-push_additions : goal.decreases-push_additions
decreases-push_additions l = length l.additions.now
