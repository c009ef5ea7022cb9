use Rattle.std.proofs.Common.{◌≡◌, ◌+◌, ◌==◌, drop}
use Rattle.std.specs.List.{position_or_len}
use Rattle.source_text.proofs.characters.apostrophe.Given as goal

abbrev pub invariant-loop-place : goal.invariant-loop-place
invariant-loop-place l =
    position_or_len (λ c. c == 39) l.octets ≡ l.place + position_or_len (λ c. c == 39) (drop l.place l.octets)
