use Rattle.std.proofs.Common.{ℕ, ◌<◌, length}
use Rattle.type_table.specs.proving.Cores.{AreKnown}
use Rattle.type_table.specs.proving.Notes.{IsKnown}
use Rattle.type_table.specs.Seen.{types_of}
use Rattle.type_table.proofs.unfolding.unfold_all.Given as goal

abbrev pub invariant-loop-i : goal.invariant-loop-i
invariant-loop-i l = record {
  known : AreKnown (types_of l.types) l.cores;
  noted : (k : ℕ) → k < l.i → IsKnown (length l.types) l.cores k;
}
