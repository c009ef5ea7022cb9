use Rattle.std.proofs.Common.{◌≡◌, ◌≤◌, ◌+◌, ℕ, Some, length}
use Rattle.std.specs.Prelude.{slice_get}
use Rattle.constraints.specs.proving.Columns.{AreNoted, IsNoted}
use Rattle.constraints.proofs.column.note_trail.Given as goal

abbrev pub invariant-loop-step : goal.invariant-loop-step
invariant-loop-step l = record {
  noted : AreNoted l.scope.program l.column.at.items l.column.limits.items;
  kept : (i : ℕ) → IsNoted l.initial.column.at.items i → IsNoted l.column.at.items i;
  done : (n i : ℕ) → slice_get l.trail n ≡ Some i → length l.trail ≤ n + l.step → IsNoted l.column.at.items i;
}
