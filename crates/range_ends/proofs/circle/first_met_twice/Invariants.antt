use Rattle.std.proofs.Common.{◌≡◌, ◌<◌, ℕ, Some}
use Rattle.type_table.specs.Walks.{follow, ComesBack}
use Rattle.range_ends.specs.proving.Steps.{listed}
use Rattle.range_ends.proofs.circle.first_met_twice.Given as goal

abbrev pub invariant-loop-step : goal.invariant-loop-step
invariant-loop-step l = record {
  chain : follow (listed l.target) l.step l.start ≡ Some l.at;
  apart : follow (listed l.target) l.around l.at ≡ Some l.ahead;
  first : (s q : ℕ) → s < l.step → follow (listed l.target) s l.start ≡ Some q → ComesBack (listed l.target) q → ⊥;
}
