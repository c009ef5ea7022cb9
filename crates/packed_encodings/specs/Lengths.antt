-- Items after their number (X.691, clauses 11.5.6 and 11.9).
use Rattle.std.specs.Prelude.{◌≡◌, ℕ, ◌+◌, ◌*◌, ◌<◌, ◌≤◌, ◌⊎◌, ℤ, pos, Bool, true, false, List, [], ◌∷◌, ◌++◌, length, ◌^◌, cond}
use Rattle.std.specs.Prelude.{map, Option, Some}
use Rattle.std.specs.Int.Digits.{digits_of, AllBelowBase}
use Rattle.asn_base.specs.Types.{Bounds}
use Rattle.asn_base.specs.Typed.{IsInRange}
use Rattle.bits.specs.Words.{low_bits}

-- a list of bits, in the order in which they are sent
abbrev pub Bits : Type 0
Bits = List Bool

-- a list of items, each of some bits, that are counted together
abbrev pub Items : Type 0
Items = List Bits

-- the bits of all items, one after the other
abbrev pub all_bits : Items → Bits
all_bits [] = []
all_bits (x ∷ xs) = x ++ all_bits xs

-- the number that bits are, the first one the most significant
abbrev pub worth : Bits → ℕ
worth [] = 0
worth (b ∷ bs) = cond b (2 ^ length bs) 0 + worth bs

-- the fewest bits in which each number from 0 to m can be written (X.691, clause 11.5.6)
abbrev pub fewest_bits : ℕ → ℕ
fewest_bits m = length (digits_of 2 m)

-- The bits are the items after their number, whatever it is (X.691, clause 11.9.3). From 16,384 items on they are cut
-- into fragments of 16,384 items or twice, three or four times as many, each the greatest possible. After the last
-- fragment come fewer than 16,384, maybe none.
pub data Counted : Items → Bits → Type 0 where
  short : {xs : Items}
      → length xs < 128
      → Counted xs (false ∷ (low_bits 7 (length xs) ++ all_bits xs))  -- 11.9.3.6
  long : {xs : Items}
      → 128 ≤ length xs
      → length xs < 16384
      → Counted xs (true ∷ (false ∷ (low_bits 14 (length xs) ++ all_bits xs)))  -- 11.9.3.7
  fragment : (m : ℕ) (xs ys : Items) {b : Bits}
      → 1 ≤ m
      → m ≤ 4
      → length xs ≡ 16384 * m
      → (length ys < 16384) ⊎ (m ≡ 4)
      → Counted ys b
      → Counted (xs ++ ys) (true ∷ (true ∷ (low_bits 6 m ++ (all_bits xs ++ b))))  -- 11.9.3.8

-- number v is from the least to the greatest number of the root with bounds z (X.691, clause 10.3)
abbrev pub IsInRootBounds : Bounds → ℤ → Type 0
IsInRootBounds z v = IsInRange v (record { least = z.least; greatest = z.greatest })

-- an upper bound below 65,536, with which the number of items takes the fewest bits (X.691, clause 11.9.4.1)
abbrev pub IsNarrow : Option ℤ → Type 0
IsNarrow (Some (pos u)) = u < 65536
IsNarrow g = ⊥

-- The bits are the items after their number, which is one of the root with bounds z.
pub data CountedInRoot (z : Bounds) : Items → Bits → Type 0 where
  -- the bounds are l and l + m, and there are l + n items
  narrow : {xs : Items} (l m n : ℕ)
      → z.least ≡ Some (pos l)
      → z.greatest ≡ Some (pos (l + m))
      → l + m < 65536
      → n ≤ m
      → length xs ≡ l + n
      → CountedInRoot z xs (low_bits (fewest_bits m) n ++ all_bits xs)  -- 11.9.4.1
  -- the upper bound is 65,536 or more, or there is none
  wide : {xs : Items} {b : Bits}
      → (IsNarrow z.greatest → ⊥)
      → IsInRootBounds z (pos (length xs))
      → Counted xs b
      → CountedInRoot z xs b  -- 11.9.4.2

-- The bits are the items after their number, in the form that SIZE with bounds z gives it (X.691, clauses 16.6, 17.3
-- and 20.4). If SIZE is extensible a bit comes first: 0 if the number is within the bounds of the root, else 1.
pub data Sized (z : Bounds) : Items → Bits → Type 0 where
  sized : {xs : Items} {b : Bits}
      → z.extensible ≡ false
      → CountedInRoot z xs b
      → Sized z xs b
  sized_in_root : {xs : Items} {b : Bits}
      → z.extensible ≡ true
      → CountedInRoot z xs b
      → Sized z xs (false ∷ b)
  sized_outside : {xs : Items} {b : Bits}
      → z.extensible ≡ true
      → (IsInRootBounds z (pos (length xs)) → ⊥)
      → Counted xs b
      → Sized z xs (true ∷ b)

-- bits b are octets o, each below 256, after their number (X.691, clause 11.9.3)
pub record CountedOctets (o : List ℕ) (b : Bits) : Type 0 where
  pub octets : AllBelowBase 256 o
  pub counted : Counted (map (low_bits 8) o) b
