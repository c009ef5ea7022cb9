-- The same items in ascending order are the sorted ones.
use Rattle.std.proofs.Common.{◌≡◌, ℕ, zero, suc, ◌<◌, [], ◌∷◌, length, arith}
use Rattle.std.specs.Prelude.{slice_set, slice_index_or}
use Rattle.std.specs.List.{swap, AllByRecursion}
use Rattle.std.specs.List.Sorted.{IsPermutation}
use Rattle.std.proofs.lemmas.List.Sorted.{IsPermutation-keeps}
use Rattle.packed_encodings.specs.Lengths.{Bits, Items}
use Rattle.packed_encodings.specs.Orders.{BitsAtMost, BitsAscend}
use Rattle.packed_encodings.specs.Computed.{sorted}
use Rattle.packed_encodings.proofs.Sorting.{Inserted, here, there, Permutes, permutes_none, permutes_more, permutes_sym, permutes_trans, sorted_same}
use Rattle.packed_encodings.proofs.ComputedBits.{sorted_permutes, sorted_ascends}

permutes_same : (xs : Items) → Permutes xs xs
permutes_same [] = permutes_none
permutes_same (x ∷ xs) = permutes_more (permutes_same xs) here

-- an item to the front, and another one in its place
to_front : (x : Bits) (l : Items) (j : ℕ) (d : Bits) → j < length l → Permutes (x ∷ l) (slice_index_or l j d ∷ slice_set l j x)
to_front x [] j d h = absurd (omega arith)
to_front x (b ∷ l) zero d h = permutes_more (permutes_same (b ∷ l)) (there here)
to_front x (b ∷ l) (suc j) d h =
    let p = to_front x l j d (omega arith) in
    permutes_trans (permutes_more (permutes_same (b ∷ l)) (there here)) (permutes_trans (permutes_more p here) (permutes_more (permutes_same _) (there here)))

swapped : (d : Bits) (l : Items) (i j : ℕ) → i < length l → j < length l → Permutes l (slice_set (slice_set l i (slice_index_or l j d)) j (slice_index_or l i d))
swapped d [] i j g h = absurd (omega arith)
swapped d (x ∷ l) zero zero g h = permutes_same (x ∷ l)
swapped d (x ∷ l) zero (suc j) g h = to_front x l j d (omega arith)
swapped d (x ∷ l) (suc i) zero g h = to_front x l i d (omega arith)
swapped d (x ∷ l) (suc i) (suc j) g h = permutes_more (swapped d l i j (omega arith) (omega arith)) here

swap_permutes : (l : Items) (i j : ℕ) → i < length l → j < length l → Permutes l (swap l i j)
swap_permutes [] i j g h = absurd (omega arith)
swap_permutes (d ∷ l) i j g h = swapped d (d ∷ l) i j g h

permutes_from : (xs ys : Items) → IsPermutation xs ys → Permutes xs ys
permutes_from xs ys h = IsPermutation-keeps xs (λ l. Permutes xs l) (permutes_same xs) (λ l i j g k p. permutes_trans p (swap_permutes l i j g k)) ys h

module _ (P : Bits → Type 0) where
  all_put : {x : Bits} {xs ys : Items} → P x → AllByRecursion P xs → Inserted x xs ys → AllByRecursion P ys
  all_put p a here = (p, a)
  all_put p a (there i) = (a.0, all_put p a.1 i)

  all_permuted : {xs ys : Items} → AllByRecursion P xs → Permutes xs ys → AllByRecursion P ys
  all_permuted a permutes_none = tt
  all_permuted a (permutes_more p i) = all_put a.0 (all_permuted a.1 p) i

  pub sorted_is : (anti : (x y : Bits) → P x → P y → BitsAtMost x y → BitsAtMost y x → x ≡ y) (xs ys : Items) → AllByRecursion P xs → IsPermutation xs ys → BitsAscend ys → sorted xs ≡ ys
  sorted_is anti xs ys a h l =
      let p = permutes_from xs ys h in
      sorted_same P anti (all_permuted a p) (permutes_trans (permutes_sym p) (sorted_permutes xs)) l (sorted_ascends xs)
