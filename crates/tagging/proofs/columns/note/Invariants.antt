use Rattle.std.proofs.Common.{ℕ, ◌<◌, length}
use Rattle.type_table.specs.proving.Notes.{IsKnown}
use Rattle.type_table.specs.Seen.{types_of}
use Rattle.tagging.specs.proving.Columns.{Front, AreKnown}
use Rattle.tagging.proofs.columns.note.Given as goal

abbrev pub invariant-loop-step : goal.invariant-loop-step
invariant-loop-step l = record {
  inside : l.at < length l.types;
  front : Front (types_of l.types) l.at l.front;
  known : AreKnown (types_of l.types) l.fronts;
  kept : (i : ℕ) → IsKnown (length l.types) l.fn.fronts i → IsKnown (length l.types) l.fronts i;
  noted : IsKnown (length l.types) l.fronts l.start;
}
