use Rattle.std.proofs.Common.{◌≡◌, ◌+◌, drop, reverse}
use Rattle.suggestions.specs.Near.{common_end, common_front}
use Rattle.suggestions.proofs.near.common_end.Given as goal

abbrev pub invariant-loop-place : goal.invariant-loop-place
invariant-loop-place l =
    common_end l.one l.other ≡ l.place + common_front (drop l.place (reverse l.one)) (drop l.place (reverse l.other))
