use Rattle.std.proofs.Common.{◌≡◌, ◌+◌, drop}
use Rattle.std.specs.List.{prefix_len}
use Rattle.source_text.specs.Strings.{is_in_word}
use Rattle.source_text.proofs.places.word_front.Given as goal

abbrev pub invariant-loop-place : goal.invariant-loop-place
invariant-loop-place l = prefix_len is_in_word l.octets ≡ l.place + prefix_len is_in_word (drop l.place l.octets)
