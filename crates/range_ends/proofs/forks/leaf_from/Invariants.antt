use Rattle.std.proofs.Common.{◌≡◌, ◌-◌}
use Rattle.range_ends.specs.proving.Trees.{leaf_below}
use Rattle.range_ends.proofs.forks.leaf_from.Given as goal

abbrev pub invariant-loop-level : goal.invariant-loop-level
invariant-loop-level l = leaf_below l.forks (l.levels - l.level) l.at l.rest ≡ leaf_below l.forks l.levels l.root l.number
