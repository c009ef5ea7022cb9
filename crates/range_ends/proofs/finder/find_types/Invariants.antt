use Rattle.range_ends.specs.proving.Noted.{AreFound}
use Rattle.range_ends.proofs.finder.find_types.Given as goal

abbrev pub invariant-loop-step : goal.invariant-loop-step
invariant-loop-step l = AreFound l.linked.program l.target l.finder
