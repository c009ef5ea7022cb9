-- Octets read as bits.
use Rattle.std.specs.Prelude.{◌≡◌, ℕ, ◌+◌, ◌-◌, ◌*◌, ◌≤◌, Bool, List, ◌++◌, length, take, drop}
use Rattle.bits.specs.Words.{octet_bits, low_bits}
use Rattle.bits.specs.declared.cursor.Bits.{Bits}

-- the bits that are left to be read
abbrev pub bits_left : Bits → List Bool
bits_left b = take (b.end - b.at) (drop b.at (octet_bits b.octets.now))

-- `count` octets were appended, and their bits were the first of the bits that were left
pub record Took (count : ℕ) (old new : List ℕ) (left after : List Bool) : Type 0 where
  pub octets : List ℕ
  pub many : length octets ≡ count
  pub joined : new ≡ old ++ octets
  pub taken : left ≡ octet_bits octets ++ after

-- `count` octets were appended, and their bits are those of `octets` from bit `at` on
abbrev pub Appends : List ℕ → ℕ → ℕ → List ℕ → List ℕ → Type 0
Appends octets at count old new =
    Took count old new (drop at (octet_bits octets)) (drop (at + 8 * count) (octet_bits octets))

-- the first bits of a low_bits are those of the octets from place `from` on, as far as both have bits
abbrev pub Begins : ℕ → List ℕ → ℕ → Type 0
Begins x octets from =
    (n : ℕ) → n ≤ 64 → n ≤ 8 * (length octets - from) → take n (low_bits 64 x) ≡ take n (octet_bits (drop from octets))
