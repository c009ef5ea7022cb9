use Rattle.std.proofs.Common.{◌≡◌, ◌<◌, ℕ, length, Some}
use Rattle.type_table.specs.Seen.{types_of}
use Rattle.type_table.specs.Table.{walk}
use Rattle.tagging.specs.proving.Columns.{Front}
use Rattle.tagging.proofs.columns.front_by.Given as goal

abbrev pub invariant-loop-step : goal.invariant-loop-step
invariant-loop-step l = record {
  inside : l.at < length l.types;
  chain : walk (types_of l.types) l.step l.start ≡ Some l.at;
  onto : (f : ℕ) → Front (types_of l.types) l.at f → Front (types_of l.types) l.start f;
}
