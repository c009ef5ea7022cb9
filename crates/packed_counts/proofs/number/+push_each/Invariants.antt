use Rattle.packed_counts.proofs.number.+push_each.Given as goal

abbrev pub decreases-push_each : goal.decreases-push_each
decreases-push_each l = l.width
