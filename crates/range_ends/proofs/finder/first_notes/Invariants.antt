use Rattle.std.proofs.Common.{ℕ, List, Option}
use Rattle.resolve.specs.Program.{Program}
use Rattle.range_ends.specs.proving.Noted.{AreRight}
use Rattle.range_ends.proofs.finder.first_notes.Given as goal

abbrev pub invariant-loop-value : goal.invariant-loop-value
invariant-loop-value l = (p : Program) (os : List (Option ℕ)) → AreRight p os l.all.items
