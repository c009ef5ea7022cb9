use Rattle.std.proofs.Common.{length}
use Rattle.next_tags.proofs.search.+find.Given as goal

abbrev pub decreases-find : goal.decreases-find
decreases-find l = length l.steps.now
