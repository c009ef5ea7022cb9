use Rattle.std.proofs.Common.{ℕ, ◌<◌}
use Rattle.resolve.specs.First.{ValueMeans}
use Rattle.resolve.proofs.sound.names_in_values.Given as goal

abbrev pub invariant-loop-value : goal.invariant-loop-value
invariant-loop-value l = (k : ℕ) → k < l.value-index → ValueMeans l.linked.program k
