-- Octets of a number in two's complement.
use Rattle.std.specs.Prelude.{◌≡◌, ℕ, ◌-◌, ◌<◌, ◌≤◌, ℤ, [], ◌∷◌, map}
use Rattle.std.specs.Int.Digits.{number_from_digits_after}
use Rattle.asn_base.specs.Typed.{IsWithinLimit}
use Rattle.encodings.specs.Header.{Octets}
use Rattle.encodings.specs.Contents.{Number}
use Rattle.primitive_reader.specs.declared.fault.LeafFault.{LeafFault}
use Rattle.primitive_reader.specs.declared.fault.LeafFault.TheVariants as faults

-- there are octets, and their first nine bits aren't all alike (X.690, 8.3.2)
abbrev pub IsShort : Octets → Type 0
IsShort [] = ⊥
IsShort (x ∷ []) = Unit {0}
IsShort (x ∷ y ∷ o) = (x ≡ 0 → 128 ≤ y) × (x ≡ 255 → y < 128)

-- the number that `high` and the octets after it, each bit of these inverted, are in base 256
abbrev pub turned_after : ℕ → Octets → ℕ
turned_after high o = number_from_digits_after 256 high (map (λ d. 255 - d) o)

pub record IsNumber (z : ℤ) (x : Octets) : Type 0 where
  pub number : Number z x
  pub within : IsWithinLimit z

-- the octets are no number (BadContents), or one past the limit (IntegerLimit)
abbrev pub IsNone : LeafFault → Octets → Type 0
IsNone faults.BadContents x = (z : ℤ) → Number z x → ⊥
IsNone faults.IntegerLimit x = (z : ℤ) × Number z x × (IsWithinLimit z → ⊥)
IsNone faults.OidLimit x = ⊥
