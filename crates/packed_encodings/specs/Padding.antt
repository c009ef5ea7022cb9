-- Bits filled to octets, and open types (X.691, clauses 11.1 and 11.2).
use Rattle.std.specs.Prelude.{◌≡◌, ℕ, suc, ◌<◌, ◌≤◌, true, false, [], ◌∷◌, ◌++◌, length, replicate}
use Rattle.std.specs.Int.Digits.{AllBelowBase}
use Rattle.bits.specs.Words.{octet_bits}
use Rattle.encodings.specs.Header.{Octets}
use Rattle.packed_encodings.specs.Lengths.{Bits, CountedOctets}

-- the octets are the bits and zero bits that fill the last octet, or one octet 0 if there are no bits (X.691, clause
-- 11.1)
pub data Padded : Bits → Octets → Type 0 where
  padded_none : Padded [] (0 ∷ [])  -- 11.1.3
  padded : {b : Bits} {o : Octets} (n : ℕ)
      → 1 ≤ length b
      → n < 8
      → AllBelowBase 256 o
      → octet_bits o ≡ b ++ replicate n false
      → Padded b o  -- 11.1

-- the bits y are an open type that holds a whole encoding x, filled to octets, after the number of these octets (X.691,
-- clause 11.2)
pub data Open : Bits → Bits → Type 0 where
  open_type : {x y : Bits} {o : Octets}
      → Padded x o  -- 11.2.1
      → CountedOctets o y  -- 11.2.2
      → Open x y

-- The last bits are the open types of k additions that the type lacks: one for each of the first bits that is set. An
-- open type has any octets, but at least one of them (X.691, clause 11.2.1).
pub data UnknownAdditions : Bits → ℕ → Bits → Type 0 where
  no_bit : UnknownAdditions [] 0 []
  clear_bit : {u : Bits} {k : ℕ} {b : Bits}
      → UnknownAdditions u k b
      → UnknownAdditions (false ∷ u) k b
  set_bit : {u : Bits} {k : ℕ} {o : Octets} {x b : Bits}
      → 1 ≤ length o  -- 11.2.1
      → CountedOctets o x
      → UnknownAdditions u k b
      → UnknownAdditions (true ∷ u) (suc k) (x ++ b)
