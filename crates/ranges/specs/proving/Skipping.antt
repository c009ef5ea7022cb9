-- Ranges that end below a number, and before another range begins.
use Rattle.std.specs.Prelude.{◌≡◌, ◌⊎◌, ◌<◌, ◌≤◌, ℕ, ℤ, List, Some, slice_index_or, true}
use Rattle.asn_base.specs.declared.constraint.Range.{Range as Range'}
use Rattle.asn_base.specs.Types.{Range}
use Rattle.ranges.specs.proving.Searching.{is_below}

-- the ranges from place i on, before place j, end below the number
abbrev pub AreEnded : ℤ → List Range' → (i j : ℕ) → Type 0
AreEnded z xs i j = (k : ℕ) (d : Range') → i ≤ k → k < j → is_below z (slice_index_or xs k d).greatest ≡ true

-- place j is place i, or the ranges from place i on, before place j, end before range r begins
abbrev pub IsPast : Range → List Range' → (i j : ℕ) → Type 0
IsPast r xs i j = (j ≡ i) ⊎ ((l : ℤ) × (r.least ≡ Some l) × AreEnded l xs i j)
