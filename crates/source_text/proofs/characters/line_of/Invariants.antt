use Rattle.std.proofs.Common.{◌≡◌, ◌+◌, drop}
use Rattle.std.specs.List.{position_or_len}
use Rattle.source_text.specs.Strings.{is_line_end}
use Rattle.source_text.proofs.characters.line_of.Given as goal

abbrev pub invariant-loop-place : goal.invariant-loop-place
invariant-loop-place l =
    position_or_len is_line_end l.octets ≡ l.place + position_or_len is_line_end (drop l.place l.octets)
