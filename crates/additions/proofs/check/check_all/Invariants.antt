use Rattle.std.proofs.Common.{ℕ, ◌<◌}
use Rattle.additions.specs.Additions.{KeepsAt}
use Rattle.additions.proofs.check.check_all.Given as goal

abbrev pub invariant-loop-ty : goal.invariant-loop-ty
invariant-loop-ty l = (i n : ℕ) → i < l.ty → KeepsAt l.tagged.program.types i n
