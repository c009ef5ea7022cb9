-- Octets of a number.
use Rattle.std.specs.Prelude.{◌≡◌, ℤ, [], ◌∷◌, if◌then◌else◌}
use Rattle.encodings.specs.Header.{Octets}
use Rattle.decode_faults.specs.declared.refusal.Refusal.TheVariants.{IntegerLimit}
use Rattle.packed_readings.specs.Outcome.{Judged, good, bad}
use Rattle.packed_readings.specs.Leaves.{is_within_limit}

-- there is more than one octet, and the first is 0 (X.691, 11.3.6)
abbrev pub HasZeroFirst : Octets → Type 0
HasZeroFirst [] = ⊥
HasZeroFirst (x ∷ []) = ⊥
HasZeroFirst (x ∷ y ∷ o) = x ≡ 0

-- a number past the limit is refused
abbrev pub limited : Judged ℤ → Judged ℤ
limited (good z) = if is_within_limit z then good z else bad IntegerLimit
limited (bad e) = bad e
