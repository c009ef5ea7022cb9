use Rattle.std.proofs.Common.{◌≡◌, ◌+◌, length}
use Rattle.typed_values.specs.proving.Reading.{GoesOn, IsLater}
use Rattle.typed_values.proofs.Closing.{AreClosed}
use Rattle.typed_values.proofs.reader.NotationReader.close_all.Given as goal

abbrev pub invariant-loop-step : goal.invariant-loop-step
invariant-loop-step l = record {
  closed : AreClosed l.fn.self.bounded.now.program l.ty.index l.count l.fn.self.opened.now l.fn.self.defaults.now l.self.opened.now
      l.self.defaults.now;
  long : length l.self.opened.now + l.step ≡ l.many + l.count;
  later : IsLater l.fn.self.defaults.now l.self.defaults.now;
  lowest : l.self.defaults.now.lowest ≡ l.fn.self.defaults.now.lowest;
  left : l.self.left ≡ l.fn.self.left;
  ready : GoesOn l.fn.self l.self;
  same_table : l.self.defaults.ghost_name ≡ l.fn.self.defaults.ghost_name;
}
