-- Which numbers are in ranges that were left out, and in ranges in another order.
use Rattle.std.proofs.Common.{inl, inr, ◌≡◌, ℤ, ◌≤ℤ◌, Bool, true, false, cond, Some, None, arith, refl, add-one, suc}
use Rattle.std.specs.Prelude.{◌⊎◌, List, [], ◌∷◌, map, Option, IfSome}
use Rattle.std.specs.List.{AllByRecursion, All, filter}
use Rattle.std.specs.List.Sorted.{IsPermutation, IsSortedByKey}
use Rattle.std.specs.Option.{option_cmp}
use Rattle.std.specs.Ordering.{int_cmp, is_lt}
use Rattle.std.proofs.lemmas.Int.{ints}
use Rattle.std.proofs.lemmas.List.Elements.{All-head, All-tail, All-nil, All-cons, All-weaker}
use Rattle.std.proofs.lemmas.List.Sorted.{All-permutation, IsPermutation-sym}
use Rattle.asn_base.specs.declared.constraint.Range.{Range as Range'}
use Rattle.asn_base.specs.Seen.{range_of}
use Rattle.asn_base.specs.Typed.{IsInRange, IsInSome}
use Rattle.ranges.specs.Numbers.{HoldsSome}
use Rattle.ranges.specs.proving.Joining.{BeginsAtMost, AreAscending, holds_some}

-- what is in the range of a declared one
abbrev In : ℤ → Range' → Type 0
In z r = IsInRange z (range_of r)

each_in : (z : ℤ) (xs : List Range') → All (λ r. In z r → IsInSome z (map range_of xs)) xs
each_in z [] = All-nil _
each_in z (x ∷ xs) =
    All-cons (λ r. In z r → IsInSome z (map range_of (x ∷ xs))) x xs (λ i. inl i)
    (All-weaker (λ r. In z r → IsInSome z (map range_of xs)) (λ r. In z r → IsInSome z (map range_of (x ∷ xs)))
    (λ r f i. inr (f i)) xs (each_in z xs))

from_each : (C : Type 0) (z : ℤ) (xs : List Range') → All (λ r. In z r → C) xs → IsInSome z (map range_of xs) → C
from_each C z [] a i = absurd i
from_each C z (x ∷ xs) a (inl i) = All-head (λ r. In z r → C) x xs a i
from_each C z (x ∷ xs) a (inr i) = from_each C z xs (All-tail (λ r. In z r → C) x xs a) i

-- ranges in another order hold the same numbers
pub in_permuted : (z : ℤ) (xs ys : List Range')
    → IsPermutation xs ys
    → IsInSome z (map range_of xs)
    → IsInSome z (map range_of ys)
in_permuted z xs ys p i =
    from_each (IsInSome z (map range_of ys)) z xs
    (All-permutation (λ r. In z r → IsInSome z (map range_of ys)) ys xs (IsPermutation-sym xs ys p) (each_in z ys)) i

-- a range that holds no number adds none
pub in_none : (l g : Option ℤ) (z : ℤ)
    → holds_some l g ≡ false
    → IfSome l (λ l. l ≤ℤ z)
    → IfSome g (λ g. z ≤ℤ g)
    → ⊥
in_none None g z e f u = grind arith
in_none (Some l) None z e f u = grind arith
in_none (Some l) (Some g) z e f u = grind (arith, ints)

abbrev pub test : Range' → Bool
test r = holds_some r.least r.greatest

pub in_filtered : (z : ℤ) (xs : List Range') → IsInSome z (map range_of (filter test xs)) → IsInSome z (map range_of xs)
in_filtered z [] i = absurd i
in_filtered z (x ∷ xs) i = elim (test x) as (λ b. IsInSome z (map range_of (cond b (x ∷ filter test xs) (filter test xs))) → IsInSome z (map range_of (x ∷ xs))) [
  | true ↦ λ h. elim h [ inl l ↦ inl l | inr l ↦ inr (in_filtered z xs l) ]
  | false ↦ λ h. inr (in_filtered z xs h)
] i

kept_step : (z : ℤ) (x : Range') (xs : List Range') (b : Bool)
    → test x ≡ b
    → In z x ⊎ IsInSome z (map range_of (filter test xs))
    → IsInSome z (map range_of (cond b (x ∷ filter test xs) (filter test xs)))
kept_step z x xs true e i = i
kept_step z x xs false e (inl i) = absurd (in_none x.least x.greatest z e i.0 i.1)
kept_step z x xs false e (inr i) = i

pub filtered_in : (z : ℤ) (xs : List Range') → IsInSome z (map range_of xs) → IsInSome z (map range_of (filter test xs))
filtered_in z [] i = absurd i
filtered_in z (x ∷ xs) (inl i) = kept_step z x xs (test x) refl (inl i)
filtered_in z (x ∷ xs) (inr i) = kept_step z x xs (test x) refl (inr (filtered_in z xs i))

-- all of some declared ranges hold a number
pub all_hold : (xs : List Range') → All (λ r. HoldsSome (range_of r)) xs → AllByRecursion HoldsSome (map range_of xs)
all_hold [] a = tt
all_hold (x ∷ xs) a =
    (All-head (λ r. HoldsSome (range_of r)) x xs a, all_hold xs (All-tail (λ r. HoldsSome (range_of r)) x xs a))

begins : (k l : Option ℤ) → is_lt (option_cmp int_cmp l k) ≡ false → BeginsAtMost k l
begins None l e = tt
begins (Some k) None e = grind arith
begins (Some k) (Some l) e = grind (arith, ints)

abbrev pub key : Range' → Option ℤ
key r = r.least

tail_sorted : (x : Range') (xs : List Range')
    → IsSortedByKey key (option_cmp int_cmp) (x ∷ xs)
    → IsSortedByKey key (option_cmp int_cmp) xs
tail_sorted x xs s k d low high =
    let h = s (suc k) d (omega arith) (omega arith) in
    rw add-one (rw add-one at h)

-- sorted ranges ascend
pub sorted_ascend : (xs : List Range') → IsSortedByKey key (option_cmp int_cmp) xs → AreAscending (map range_of xs)
sorted_ascend [] s = tt
sorted_ascend (x ∷ []) s = tt
sorted_ascend (x ∷ y ∷ xs) s =
    (begins x.least y.least (s 0 x (omega arith) (omega arith)), sorted_ascend (y ∷ xs) (tail_sorted x (y ∷ xs) s))
