-- Last bits of octets.
use Rattle.std.specs.Prelude.{◌≡◌, ℕ, ◌-◌, ◌/◌, ◌%◌, ◌^◌, ◌==◌, ◌⊎◌, Bool, List, [], ◌∷◌, drop}
use Rattle.asn_base.specs.Abstract.{bits_of_octet}
use Rattle.encodings.specs.Header.{Octets}

-- the first octet has no bits set, or all of them
abbrev pub IsTruth : Octets → Type 0
IsTruth [] = ⊥
IsTruth (x ∷ o) = (x ≡ 0) ⊎ (x ≡ 255)

-- the last n bits of an octet
abbrev pub low_bits : ℕ → ℕ → List Bool
low_bits n x = drop (8 - n) (bits_of_octet x)

-- the bit of an octet before its last n bits
abbrev pub one_bit : ℕ → ℕ → Bool
one_bit n x = x / 2 ^ n % 2 == 1
