use Rattle.std.proofs.Common.{◌≡◌, ◌<◌, Some, length}
use Rattle.type_table.specs.Seen.{types_of}
use Rattle.type_table.specs.Table.{walk}
use Rattle.constraints.specs.proving.Reported.{AreTargets}
use Rattle.constraints.proofs.Trails.{IsFront}
use Rattle.constraints.proofs.column.trail.Given as goal

abbrev pub invariant-loop-step : goal.invariant-loop-step
invariant-loop-step l = record {
  inside : l.ty < length l.types;
  chain : walk (types_of l.types) l.step l.start ≡ Some l.ty;
  long : length l.all.items ≡ l.step;
  target : AreTargets (types_of l.types) l.start l.all.items;
  front : IsFront (types_of l.types) l.start l.ty l.all.items;
}
