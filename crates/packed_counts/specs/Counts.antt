-- The number before items, piece by piece (X.691, 11.9).
use Rattle.std.specs.Prelude.{◌≡◌, ℕ, ◌*◌, ◌/◌, nat_lt, min, pos, Some, Bool, true, false, if◌then◌else◌, ◌∷◌, ◌++◌, length}
use Rattle.bits.specs.Words.{low_bits}
use Rattle.asn_base.specs.Types.{Bounds}
use Rattle.packed_encodings.specs.Lengths.{Bits, Items, all_bits, Counted, CountedInRoot, Sized}

-- how many items come next if n items are left: all of them, or a fragment (11.9.3.8)
abbrev pub items_next : ℕ → ℕ
items_next n = if nat_lt n 16384 then n else 16384 * min 4 (n / 16384)

-- the bits before these items (11.9.3.6 to 11.9.3.8)
abbrev pub count_bits : ℕ → Bits
count_bits n =
    if nat_lt n 128
    then false ∷ low_bits 7 n
    else (if nat_lt n 16384
    then true ∷ (false ∷ low_bits 14 n)
    else true ∷ (true ∷ low_bits 6 (min 4 (n / 16384))))

-- bits for which P holds follow the old bits
pub record Adds (P : Bits → Type 0) (old new : Bits) : Type 0 where
  pub bits : Bits
  pub is : P bits
  pub whole : new ≡ old ++ bits

-- the sizes have a least one
abbrev pub HasLeast : Bounds → Type 0
HasLeast z = (l : ℕ) × (z.least ≡ Some (pos l))

-- Bits h come before n items, if n is a size of the root. Either the items follow, or the items after their number do.
pub record IsRootHead (z : Bounds) (n : ℕ) (at_once : Bool) (h : Bits) : Type 0 where
  pub once : at_once ≡ true → (xs : Items) → length xs ≡ n → CountedInRoot z xs (h ++ all_bits xs)
  pub counted : at_once ≡ false → (xs : Items) (b : Bits) → length xs ≡ n → Counted xs b → CountedInRoot z xs (h ++ b)

-- Bits h come before n items by the constraint on the size. Either the items follow, or the items after their number
-- do.
pub record IsHead (z : Bounds) (n : ℕ) (at_once : Bool) (h : Bits) : Type 0 where
  pub once : at_once ≡ true → (xs : Items) → length xs ≡ n → Sized z xs (h ++ all_bits xs)
  pub counted : at_once ≡ false → (xs : Items) (b : Bits) → length xs ≡ n → Counted xs b → Sized z xs (h ++ b)
