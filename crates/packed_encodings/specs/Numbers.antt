-- Whole numbers in bits (X.691, clauses 11.3 to 11.8 and 13).
use Rattle.std.specs.Prelude.{◌≡◌, ℕ, ◌≤◌, ℤ, pos, ◌+ℤ◌, ◌≤ℤ◌, true, false, ◌∷◌, length, Some, None, IfSome}
use Rattle.std.specs.Int.Digits.{number_from_digits, AllBelowBase}
use Rattle.asn_base.specs.Types.{Bounds}
use Rattle.bits.specs.Words.{low_bits}
use Rattle.encodings.specs.Contents.{Number}
use Rattle.encodings.specs.Header.{Octets}
use Rattle.packed_encodings.specs.Lengths.{Bits, fewest_bits, IsInRootBounds, CountedOctets}

-- octets o, at least one, are the number n, which isn't negative (X.691, clause 11.3)
pub record Unsigned (n : ℕ) (o : Octets) : Type 0 where
  pub some : 1 ≤ length o
  pub octets : AllBelowBase 256 o
  pub worth : number_from_digits 256 o ≡ n

-- octets o are the number n, and no fewer octets are (X.691, clause 11.3.6)
pub record FewestUnsigned (n : ℕ) (o : Octets) : Type 0 where
  pub is : Unsigned n o
  pub fewest : (p : Octets) → Unsigned n p → length o ≤ length p

-- the bits are those of a number of the root with bounds z (X.691, clause 13.2)
pub data IntegerInRoot (z : Bounds) : ℤ → Bits → Type 0 where
  -- the root is from l to l + m, and the number is l + n
  between : {v : ℤ} (l : ℤ) (m n : ℕ)
      → z.least ≡ Some l
      → z.greatest ≡ Some (l +ℤ pos m)
      → n ≤ m
      → v ≡ l +ℤ pos n
      → IntegerInRoot z v (low_bits (fewest_bits m) n)  -- 11.5
  -- the root is from l on, and the number is l + n
  from_least : {v : ℤ} (l : ℤ) (n : ℕ) {o : Octets} {b : Bits}
      → z.least ≡ Some l
      → z.greatest ≡ None
      → v ≡ l +ℤ pos n
      → FewestUnsigned n o
      → CountedOctets o b
      → IntegerInRoot z v b  -- 11.7
  -- the root has no least number
  unbounded : {v : ℤ} {o : Octets} {b : Bits}
      → z.least ≡ None
      → IfSome z.greatest (λ g. v ≤ℤ g)
      → Number v o
      → CountedOctets o b
      → IntegerInRoot z v b  -- 11.8

-- The bits are those of a number in the form that a constraint with bounds z gives it (X.691, clause 13). If the
-- constraint is extensible a bit comes first: 0 if the number is within the bounds of the root, else 1 (13.1).
pub data Integer (z : Bounds) : ℤ → Bits → Type 0 where
  integer_bounded : {v : ℤ} {b : Bits}
      → z.extensible ≡ false
      → IntegerInRoot z v b
      → Integer z v b  -- 13.2
  integer_in_root : {v : ℤ} {b : Bits}
      → z.extensible ≡ true
      → IntegerInRoot z v b
      → Integer z v (false ∷ b)  -- 13.1
  integer_outside : {v : ℤ} {o : Octets} {b : Bits}
      → z.extensible ≡ true
      → (IsInRootBounds z v → ⊥)
      → Number v o
      → CountedOctets o b
      → Integer z v (true ∷ b)  -- 13.1
