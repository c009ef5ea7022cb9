use Rattle.std.proofs.Common.{◌≡◌, ℕ, ◌<◌, nat_lt, drop}
use Rattle.std.specs.Prelude.{◌&&◌}
use Rattle.packed_encodings.specs.Computed.{all_below}
use Rattle.packed_readings.proofs.character.greatest_code.Given as goal

abbrev pub invariant-loop-code : goal.invariant-loop-code
invariant-loop-code l = (n : ℕ) → 0 < n → all_below n l.alphabet ≡ (nat_lt l.greatest n && all_below n (drop l.code-index l.alphabet))
