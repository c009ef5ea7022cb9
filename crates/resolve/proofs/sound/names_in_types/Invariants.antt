use Rattle.std.proofs.Common.{ℕ, ◌<◌}
use Rattle.resolve.specs.First.{TypeMeans}
use Rattle.resolve.proofs.sound.names_in_types.Given as goal

abbrev pub invariant-loop-index : goal.invariant-loop-index
invariant-loop-index l = (k : ℕ) → k < l.index → TypeMeans l.linked.program k
