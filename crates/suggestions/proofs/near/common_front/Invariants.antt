use Rattle.std.proofs.Common.{◌≡◌, ◌+◌, drop}
use Rattle.suggestions.specs.Near.{common_front}
use Rattle.suggestions.proofs.near.common_front.Given as goal

abbrev pub invariant-loop-place : goal.invariant-loop-place
invariant-loop-place l =
    common_front l.one l.other ≡ l.place + common_front (drop l.place l.one) (drop l.place l.other)
