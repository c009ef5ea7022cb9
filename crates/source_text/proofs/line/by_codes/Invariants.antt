use Rattle.std.proofs.Common.{string_bytes}
use Rattle.std.specs.List.{flat_map}
use Rattle.source_text.specs.Shown.{escaped_character, escaped}
use Rattle.source_text.proofs.Going.{IsGoing}
use Rattle.source_text.proofs.line.by_codes.Given as goal

abbrev pub invariant-loop-c : goal.invariant-loop-c
invariant-loop-c l = IsGoing (flat_map escaped_character) (string_bytes l.line) l.c-iterator.rest.now (escaped l.name)
