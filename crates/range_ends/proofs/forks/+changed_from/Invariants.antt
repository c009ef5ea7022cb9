use Rattle.range_ends.proofs.forks.+changed_from.Given as goal

abbrev pub decreases-changed_from : goal.decreases-changed_from
decreases-changed_from l = l.levels
