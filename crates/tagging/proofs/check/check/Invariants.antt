use Rattle.std.proofs.Common.{ℕ, ◌<◌}
use Rattle.tagging.specs.FirstFault.{IsFaultless}
use Rattle.tagging.proofs.check.check.Given as goal

abbrev pub invariant-loop-ty : goal.invariant-loop-ty
invariant-loop-ty l = (i : ℕ) → i < l.ty → IsFaultless l.columns.program.types l.types i
