use Rattle.std.proofs.Common.{◌≡◌, ℕ, Some, length}
use Rattle.std.specs.Prelude.{slice_get}
use Rattle.constraints.proofs.column.nothing_noted.Given as goal

abbrev pub invariant-loop-step : goal.invariant-loop-step
invariant-loop-step l = record {
  long : length l.at.items ≡ l.step;
  none : (i a : ℕ) → slice_get l.at.items i ≡ Some (Some a) → ⊥;
}
