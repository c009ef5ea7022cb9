use Rattle.std.proofs.Common.{ℕ, ◌<◌, length}
use Rattle.type_table.specs.proving.Cores.{AreKnown}
use Rattle.type_table.specs.proving.Notes.{IsKnown}
use Rattle.type_table.specs.Seen.{types_of}
use Rattle.type_table.specs.Table.{IsUnderlying}
use Rattle.type_table.proofs.unfolding.note.Given as goal

abbrev pub invariant-loop-step : goal.invariant-loop-step
invariant-loop-step l = record {
  inside : l.at < length l.types;
  core : IsUnderlying (types_of l.types) l.at l.core;
  known : AreKnown (types_of l.types) l.cores;
  kept : (i : ℕ) → IsKnown (length l.types) l.fn.cores i → IsKnown (length l.types) l.cores i;
  noted : IsKnown (length l.types) l.cores l.start;
}
