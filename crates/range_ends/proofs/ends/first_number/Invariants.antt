use Rattle.std.proofs.Common.{◌≡◌, ◌<◌, ◌≤◌, ℕ, length, Some}
use Rattle.type_table.specs.Seen.{kind_of}
use Rattle.range_ends.specs.proving.Steps.{next}
use Rattle.type_table.specs.Walks.{follow}
use Rattle.range_ends.proofs.ends.first_number.Given as goal

abbrev pub invariant-loop-step : goal.invariant-loop-step
invariant-loop-step l = record {
  inside : l.at < length l.linked.program.values;
  steps : (s : ℕ) × (l.step ≤ s) × (follow (next l.linked.program (kind_of l.shape) l.target) s l.start ≡ Some l.at);
}
