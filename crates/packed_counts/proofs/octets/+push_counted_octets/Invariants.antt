use Rattle.std.proofs.Common.{length}
use Rattle.packed_counts.proofs.octets.+push_counted_octets.Given as goal

abbrev pub decreases-push_counted_octets : goal.decreases-push_counted_octets
decreases-push_counted_octets l = length l.octets.now
