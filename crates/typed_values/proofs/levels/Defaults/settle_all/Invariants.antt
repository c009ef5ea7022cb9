use Rattle.std.proofs.Common.{◌≡◌}
use Rattle.typed_values.specs.Known.{AreKnown}
use Rattle.typed_values.specs.proving.Reading.{IsLater}
use Rattle.typed_values.proofs.levels.Defaults.settle_all.Given as goal

abbrev pub invariant-loop-step : goal.invariant-loop-step
invariant-loop-step l = record {
  known : AreKnown l.bounded.program l.self;
  later : IsLater l.fn.self l.self;
  lowest : l.self.lowest ≡ l.fn.self.lowest;
}
