-- Searching a number in ranges that are apart.
use Rattle.std.proofs.Common.{inl, inr, ◌≡◌, ℕ, zero, ◌<◌, ℤ, ◌≤ℤ◌, Some, None, arith, suc, true, false}
use Rattle.std.specs.Prelude.{List, [], ◌∷◌, map, length, Option, IfSome, slice_index_or, Bool}
use Rattle.std.specs.List.{AllByRecursion}
use Rattle.std.specs.List.Sorted.{IsPartitionedBy, IsPartitionPoint}
use Rattle.std.proofs.lemmas.Int.{ints}
use Rattle.asn_base.specs.declared.constraint.Range.{Range as Range'}
use Rattle.asn_base.specs.Types.{Range}
use Rattle.asn_base.specs.Seen.{range_of}
use Rattle.asn_base.specs.Typed.{IsInRange, IsInSome}
use Rattle.ranges.specs.Numbers.{HoldsSome, EndsBefore, AreApart}
use Rattle.ranges.specs.proving.Searching.{is_below}
use Rattle.ranges.proofs.Orders.{From, UpTo, Ends}

-- the range ends below the number
abbrev pub below : ℤ → Range' → Bool
below z r = is_below z r.greatest

pub above_none : (g : Option ℤ) (z : ℤ) → is_below z g ≡ true → UpTo g z → ⊥
above_none None z b u = grind arith
above_none (Some g) z b u = grind (arith, ints)

-- what begins past an end that isn't below the number begins past the number
pub past_end : (g l : Option ℤ) (z : ℤ) → is_below z g ≡ false → Ends g l → From l z → ⊥
past_end None l z b e f = e
past_end (Some g) None z b e f = e
past_end (Some g) (Some l) z b e f = grind (arith, ints)

pub ends_below_too : (g l h : Option ℤ) (z : ℤ)
    → Ends g l
    → IfSome l (λ k. IfSome h (λ e. k ≤ℤ e))
    → is_below z h ≡ true
    → is_below z g ≡ true
ends_below_too None l h z e s b = absurd e
ends_below_too (Some g) None h z e s b = absurd e
ends_below_too (Some g) (Some l) None z e s b = absurd (let f : false ≡ true = b in grind arith)
ends_below_too (Some g) (Some l) (Some h) z e s b = grind (arith, ints)

all_at : (P : Range → Type 0) (xs : List Range') (i : ℕ) (d : Range')
    → AllByRecursion P (map range_of xs)
    → i < length xs
    → P (range_of (slice_index_or xs i d))
all_at P [] i d a h = absurd (omega arith)
all_at P (x ∷ xs) zero d a h = a.0
all_at P (x ∷ xs) (suc i) d a h = all_at P xs i d a.1 (omega arith)

pub holds_at : (xs : List Range') (i : ℕ) (d : Range')
    → AreApart (map range_of xs)
    → i < length xs
    → HoldsSome (range_of (slice_index_or xs i d))
holds_at [] i d a h = absurd (omega arith)
holds_at (x ∷ xs) zero d a h = a.0
holds_at (x ∷ xs) (suc i) d a h = holds_at xs i d a.2 (omega arith)

-- after a range that doesn't end below the number, no range does
pub partitioned : (z : ℤ) (xs : List Range') → AreApart (map range_of xs) → IsPartitionedBy (below z) xs
partitioned z [] a i j d h k b = absurd (omega arith)
partitioned z (x ∷ xs) a zero zero d h k b = b
partitioned z (x ∷ xs) a zero (suc j) d h k b =
    ends_below_too x.greatest (slice_index_or xs j d).least (slice_index_or xs j d).greatest z
    (all_at (EndsBefore (range_of x)) xs j d a.1 (omega arith)) (holds_at xs j d a.2 (omega arith)) b
partitioned z (x ∷ xs) a (suc i) zero d h k b = absurd (omega arith)
partitioned z (x ∷ xs) a (suc i) (suc j) d h k b = partitioned z xs a.2 i j d (omega arith) (omega arith) b

-- a number in the range at a place is in the ranges
pub in_at : (z : ℤ) (xs : List Range') (i : ℕ) (d : Range')
    → i < length xs
    → IsInRange z (range_of (slice_index_or xs i d))
    → IsInSome z (map range_of xs)
in_at z [] i d h k = absurd (omega arith)
in_at z (x ∷ xs) zero d h k = inl k
in_at z (x ∷ xs) (suc i) d h k = inr (in_at z xs i d (omega arith) k)

in_none_after : (x : Range') (z : ℤ) (xs : List Range')
    → below z x ≡ false
    → AllByRecursion (EndsBefore (range_of x)) (map range_of xs)
    → IsInSome z (map range_of xs)
    → ⊥
in_none_after x z [] b a i = i
in_none_after x z (y ∷ xs) b a (inl i) = past_end x.greatest y.least z b a.0 i.0
in_none_after x z (y ∷ xs) b a (inr i) = in_none_after x z xs b a.1 i

-- a number in the ranges is in the one at the first place whose range doesn't end below it
pub only_at : (z : ℤ) (xs : List Range') (i : ℕ) (d : Range')
    → AreApart (map range_of xs)
    → ((k : ℕ) → k < i → k < length xs → below z (slice_index_or xs k d) ≡ true)
    → (i < length xs → below z (slice_index_or xs i d) ≡ false)
    → IsInSome z (map range_of xs)
    → (i < length xs) × IsInRange z (range_of (slice_index_or xs i d))
only_at z [] i d a f b n = absurd n
only_at z (x ∷ xs) zero d a f b (inl n) = (omega arith, n)
only_at z (x ∷ xs) zero d a f b (inr n) = absurd (in_none_after x z xs (b (omega arith)) a.1 n)
only_at z (x ∷ xs) (suc i) d a f b (inl n) = absurd (above_none x.greatest z (f 0 (omega arith) (omega arith)) n.1)
only_at z (x ∷ xs) (suc i) d a f b (inr n) =
    let o = only_at z xs i d a.2 (λ k h l. f (suc k) (omega arith) (omega arith)) (λ h. b (omega arith)) n in
    (omega arith, o.1)

-- the same at the place that a search gives
pub searched : (z : ℤ) (xs : List Range') (i : ℕ) (d : Range')
    → AreApart (map range_of xs)
    → IsPartitionPoint (λ y. below z y ≡ true) (λ y. below z y ≡ false) xs i
    → IsInSome z (map range_of xs)
    → (i < length xs) × IsInRange z (range_of (slice_index_or xs i d))
searched z xs i d a p n =
    only_at z xs i d a (λ k h l. p.0 k d (omega arith) h) (λ h. p.1 i d (omega arith) h) n
