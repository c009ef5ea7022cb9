use Rattle.std.proofs.Common.{◌≡◌, ◌+◌, drop}
use Rattle.std.specs.List.{prefix_len}
use Rattle.source_text.specs.Context.{is_continuation}
use Rattle.source_text.proofs.caret.to_character.Given as goal

abbrev pub invariant-loop-place : goal.invariant-loop-place
invariant-loop-place l =
    101 + prefix_len is_continuation (drop 101 l.octets) ≡ l.place + prefix_len is_continuation (drop l.place l.octets)
