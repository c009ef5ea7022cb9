use Rattle.std.proofs.Common.{◌≡◌, Some}
use Rattle.type_table.specs.Walks.{follow}
use Rattle.range_ends.specs.proving.Steps.{listed}
use Rattle.range_ends.proofs.circle.far_after.Given as goal

abbrev pub invariant-loop-step : goal.invariant-loop-step
invariant-loop-step l = follow (listed l.target) l.step l.start ≡ Some l.at
