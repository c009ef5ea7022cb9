use Rattle.std.proofs.Common.{length}
use Rattle.next_tags.proofs.search.+are_read.Given as goal

abbrev pub decreases-are_read : goal.decreases-are_read
decreases-are_read l = length l.steps.now
