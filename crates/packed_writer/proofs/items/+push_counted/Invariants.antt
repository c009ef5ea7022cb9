use Rattle.std.proofs.Common.{length}
use Rattle.packed_writer.proofs.items.+push_counted.Given as goal

abbrev pub decreases-push_counted : goal.decreases-push_counted
decreases-push_counted l = length l.items.now
