use Rattle.std.proofs.Common.{string_bytes}
use Rattle.source_text.specs.Shown.{cut, shown}
use Rattle.source_text.proofs.Going.{IsGoing}
use Rattle.source_text.proofs.line.cut.Given as goal

abbrev pub invariant-loop-c : goal.invariant-loop-c
invariant-loop-c l = IsGoing (cut l.left) (string_bytes l.line) l.c-iterator.rest.now (shown l.text)
