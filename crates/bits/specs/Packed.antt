-- Bits in words.
use Rattle.std.specs.Prelude.{◌≡◌, ℕ, ◌+◌, ◌<◌, Bool, false, List, ◌++◌, length, replicate, take}
use Rattle.bits.specs.Words.{word_bits}

-- the words are the bits, filled with the fewest zero bits that make whole words
pub record Fills (bits : List Bool) (words : List ℕ) : Type 0 where
  pub zeros : ℕ
  pub few : zeros < 64
  pub joined : word_bits words ≡ bits ++ replicate zeros false

-- the words are the bits, of which there are n
pub record Holds (words : List ℕ) (n : ℕ) (bits : List Bool) : Type 0 where
  pub fills : Fills bits words
  pub long : length bits ≡ n

-- the first n bits of words
abbrev pub first_bits : List ℕ → ℕ → List Bool
first_bits words n = take n (word_bits words)

-- the words are the first `len` bits of the older words, and then n more bits
abbrev pub Extends : List ℕ → ℕ → List ℕ → ℕ → List Bool → Type 0
Extends old len new n bits = Holds new (len + n) (first_bits old len ++ bits)
