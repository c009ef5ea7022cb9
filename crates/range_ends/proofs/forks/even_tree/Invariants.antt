use Rattle.std.proofs.Common.{◌≡◌, ℕ, Some}
use Rattle.range_ends.specs.proving.Trees.{KeepBelow, leaf_below}
use Rattle.range_ends.proofs.forks.even_tree.Given as goal

abbrev pub invariant-loop-level : goal.invariant-loop-level
invariant-loop-level l = record {
  levels : l.forks.levels ≡ l.levels;
  kept : KeepBelow l.initial.forks.all.items l.forks.all.items;
  leads : (n : ℕ) → leaf_below l.forks.all.items l.level l.at n ≡ Some l.leaf;
}
