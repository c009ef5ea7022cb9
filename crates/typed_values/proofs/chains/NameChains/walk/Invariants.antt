use Rattle.std.proofs.Common.{◌≡◌, ◌<◌, length}
use Rattle.typed_values.proofs.chains.NameChains.walk.Given as goal

abbrev pub invariant-loop-step : goal.invariant-loop-step
invariant-loop-step l = record {
  inside : l.at < length l.linked.program.values;
  chains : l.self.chains ≡ l.fn.self.chains;
  stops : l.self.stops ≡ l.fn.self.stops;
}
