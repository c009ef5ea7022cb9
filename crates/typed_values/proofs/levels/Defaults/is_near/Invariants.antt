use Rattle.std.proofs.Common.{◌<◌, length}
use Rattle.typed_values.proofs.levels.Defaults.is_near.Given as goal

abbrev pub invariant-loop-step : goal.invariant-loop-step
invariant-loop-step l = l.at < length l.linked.program.values
