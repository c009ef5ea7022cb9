use Rattle.std.proofs.Common.{◌++◌, length, replicate, string_bytes}
use Rattle.std.specs.List.{flat_map}
use Rattle.std.specs.Str.{chars}
use Rattle.source_text.proofs.Going.{IsGoing, space}
use Rattle.source_text.proofs.caret.push_spaces.Given as goal

abbrev pub invariant-loop : goal.invariant-loop
invariant-loop l =
    IsGoing (flat_map space) (string_bytes l.line) l.iterator'.rest.now
    (string_bytes l.initial.line ++ replicate (length (chars l.text)) 32)
