use Rattle.std.proofs.Common.{◌≤◌, length}
use Rattle.source_text.proofs.Ends.{HasNoEndFrom}
use Rattle.source_text.proofs.caret.after_line_end.Given as goal

abbrev pub invariant-loop-place : goal.invariant-loop-place
invariant-loop-place l = record {
  within : l.place ≤ length l.octets;
  after : HasNoEndFrom l.octets l.place;
}
