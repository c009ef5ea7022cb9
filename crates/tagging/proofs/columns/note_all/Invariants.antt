use Rattle.std.proofs.Common.{ℕ, ◌<◌, length}
use Rattle.type_table.specs.proving.Notes.{IsKnown}
use Rattle.type_table.specs.Seen.{types_of}
use Rattle.tagging.specs.proving.Columns.{AreKnown}
use Rattle.tagging.proofs.columns.note_all.Given as goal

abbrev pub invariant-loop-i : goal.invariant-loop-i
invariant-loop-i l = record {
  known : AreKnown (types_of l.types) l.fronts;
  noted : (k : ℕ) → k < l.i → IsKnown (length l.types) l.fronts k;
}
