use Rattle.std.proofs.Common.{length}
use Rattle.next_tags.proofs.first.+any_begins.Given as goal

abbrev pub decreases-any_begins : goal.decreases-any_begins
decreases-any_begins l = length l.calls.now
