use Rattle.packed_leaves.proofs.bit_string.+push_counted.Given as goal

abbrev pub decreases-push_counted : goal.decreases-push_counted
decreases-push_counted l = l.count
