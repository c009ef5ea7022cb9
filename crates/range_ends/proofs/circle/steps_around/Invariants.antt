use Rattle.std.proofs.Common.{◌≡◌, ◌<◌, ◌-◌, ℕ, Some}
use Rattle.type_table.specs.Walks.{follow}
use Rattle.range_ends.specs.proving.Steps.{listed}
use Rattle.range_ends.proofs.circle.steps_around.Given as goal

abbrev pub invariant-loop-step : goal.invariant-loop-step
invariant-loop-step l = record {
  some : 0 < l.step;
  chain : follow (listed l.target) (l.step - 1) l.start ≡ Some l.at;
  never : (s : ℕ) → 0 < s → s < l.step → follow (listed l.target) s l.start ≡ Some l.start → ⊥;
}
