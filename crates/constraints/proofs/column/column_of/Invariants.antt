use Rattle.std.proofs.Common.{◌<◌, ℕ}
use Rattle.constraints.specs.proving.Columns.{AreNoted, IsNoted}
use Rattle.constraints.proofs.column.column_of.Given as goal

abbrev pub invariant-loop-ty : goal.invariant-loop-ty
invariant-loop-ty l = record {
  noted : AreNoted l.scope.program l.column.at.items l.column.limits.items;
  done : (i : ℕ) → i < l.ty → IsNoted l.column.at.items i;
}
