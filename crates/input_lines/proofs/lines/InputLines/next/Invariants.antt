-- What was taken of the line so far.
use Rattle.std.proofs.Common.{ℕ, List}
use Rattle.std.specs.Io.KnownBytes.{Consumes}
use Rattle.input_lines.specs.Remaining.{remaining_of}
use Rattle.input_lines.specs.proving.Parts.{HasNoEnd, IsKept}
use Rattle.input_lines.proofs.lines.InputLines.next.Given as goal

abbrev pub invariant-loop : goal.invariant-loop
invariant-loop g l =
    (full : List ℕ) × HasNoEnd full
    × Consumes (remaining_of g.R.Read.remaining l.fn.self) (remaining_of g.R.Read.remaining l.self) full × IsKept full l.line.items
