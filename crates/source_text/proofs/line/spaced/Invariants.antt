use Rattle.std.proofs.Common.{string_bytes}
use Rattle.std.specs.List.{flat_map}
use Rattle.source_text.specs.Shown.{spaced_character, on_one_line}
use Rattle.source_text.proofs.Going.{IsGoing}
use Rattle.source_text.proofs.line.spaced.Given as goal

abbrev pub invariant-loop-c : goal.invariant-loop-c
invariant-loop-c l =
    IsGoing (flat_map spaced_character) (string_bytes l.line) l.c-iterator.rest.now (on_one_line l.text)
