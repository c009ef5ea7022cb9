use Rattle.std.proofs.Common.{length}
use Rattle.next_tags.proofs.search.+is_extensible.Given as goal

abbrev pub decreases-is_extensible : goal.decreases-is_extensible
decreases-is_extensible l = length l.steps.now
