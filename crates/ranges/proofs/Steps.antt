-- The steps of the loops that join ranges and that meet them.
use Rattle.std.proofs.Common.{◌≡◌, ℕ, ◌+◌, ◌<◌, ◌≤◌, refl, ap, subst, add-one, drop-cons, drop_of_length-le}
use Rattle.std.specs.Prelude.{List, [], ◌∷◌, ◌++◌, map, length, slice_index_or, drop}
use Rattle.std.proofs.lemmas.List.{map-append}
use Rattle.asn_base.specs.declared.constraint.Range.{Range as Range'}
use Rattle.asn_base.specs.Types.{Range}
use Rattle.asn_base.specs.Seen.{range_of}
use Rattle.ranges.specs.Numbers.{EndsBefore}
use Rattle.ranges.specs.proving.Meeting.{common, EndsAtMost, IsKept, Meets, meets_none, meets_with_none, meets_past_left, meets_past_right}
use Rattle.ranges.specs.proving.Joining.{joined, Joins, joins_last, joins_apart, joins_touching}

-- a range that was pushed is before the rest
pub pushed : (all : List Range') (x : Range') (rest : List Range)
    → map range_of (all ++ (x ∷ [])) ++ rest ≡ map range_of all ++ (range_of x ∷ rest)
pushed [] x rest = refl
pushed (y ∷ all) x rest = ap (λ ys. range_of y ∷ ys) (pushed all x rest)

-- the ranges from place i on: the one at i, then those after it
pub from_place : (xs : List Range') (i : ℕ) (d : Range')
    → i < length xs
    → map range_of (drop i xs) ≡ range_of (slice_index_or xs i d) ∷ map range_of (drop (i + 1) xs)
from_place xs i d h = rw (drop-cons xs i d h, add-one) refl

pub step_apart : (last : Range') (xs : List Range') (i : ℕ) (d : Range') (rest : List Range)
    → i < length xs
    → EndsBefore (range_of last) (range_of (slice_index_or xs i d))
    → Joins (range_of (slice_index_or xs i d)) (map range_of (drop (i + 1) xs)) rest
    → Joins (range_of last) (map range_of (drop i xs)) (range_of last ∷ rest)
step_apart last xs i d rest h e j = rw (from_place xs i d h) (joins_apart e j)

pub step_touching : (last next : Range') (xs : List Range') (i : ℕ) (d : Range') (rest : List Range)
    → i < length xs
    → (EndsBefore (range_of last) (range_of (slice_index_or xs i d)) → ⊥)
    → range_of next ≡ joined (range_of last) (range_of (slice_index_or xs i d))
    → Joins (range_of next) (map range_of (drop (i + 1) xs)) rest
    → Joins (range_of last) (map range_of (drop i xs)) rest
step_touching last next xs i d rest h n e j = rw (from_place xs i d h) (joins_touching n (rw e at j))

-- no range is left: the last one completes the whole
pub finished : (first last : Range') (xs all : List Range') (i : ℕ)
    → length xs ≤ i
    → ((rest : List Range)
    → Joins (range_of last) (map range_of (drop i xs)) rest
    → Joins (range_of first) (map range_of xs) (map range_of all ++ rest))
    → Joins (range_of first) (map range_of xs) (map range_of (all ++ (last ∷ [])))
finished first last xs all i h completes =
    let none : map range_of (drop i xs) ≡ [] = rw (drop_of_length-le xs h) refl in
    let whole = completes (range_of last ∷ []) (rw none joins_last) in
    rw map-append whole

-- a step past the range that ends first
pub step_left : (ls rs : List Range') (i j : ℕ) (d e part : Range') (rest kept : List Range)
    → i < length ls
    → j < length rs
    → range_of part ≡ common (range_of (slice_index_or ls i d)) (range_of (slice_index_or rs j e))
    → EndsAtMost (slice_index_or ls i d).greatest (slice_index_or rs j e).greatest
    → IsKept (range_of part) rest kept
    → Meets (map range_of (drop (i + 1) ls)) (map range_of (drop j rs)) rest
    → Meets (map range_of (drop i ls)) (map range_of (drop j rs)) kept
step_left ls rs i j d e part rest kept h k p a b m =
    let m' = rw (from_place rs j e k) at m in
    let b' = subst (λ (x : Range). IsKept x rest kept) p b in
    rw (from_place ls i d h, from_place rs j e k) (meets_past_left a m' b')

pub step_right : (ls rs : List Range') (i j : ℕ) (d e part : Range') (rest kept : List Range)
    → i < length ls
    → j < length rs
    → range_of part ≡ common (range_of (slice_index_or ls i d)) (range_of (slice_index_or rs j e))
    → EndsAtMost (slice_index_or rs j e).greatest (slice_index_or ls i d).greatest
    → IsKept (range_of part) rest kept
    → Meets (map range_of (drop i ls)) (map range_of (drop (j + 1) rs)) rest
    → Meets (map range_of (drop i ls)) (map range_of (drop j rs)) kept
step_right ls rs i j d e part rest kept h k p a b m =
    let m' = rw (from_place ls i d h) at m in
    let b' = subst (λ (x : Range). IsKept x rest kept) p b in
    rw (from_place ls i d h, from_place rs j e k) (meets_past_right a m' b')

-- one side is at its end: nothing more is met
pub ended_left : (ls rs : List Range') (i j : ℕ)
    → length ls ≤ i
    → Meets (map range_of (drop i ls)) (map range_of (drop j rs)) []
ended_left ls rs i j h =
    let none : map range_of (drop i ls) ≡ [] = rw (drop_of_length-le ls h) refl in rw none meets_none

pub ended_right : (ls rs : List Range') (i j : ℕ)
    → length rs ≤ j
    → Meets (map range_of (drop i ls)) (map range_of (drop j rs)) []
ended_right ls rs i j h =
    let none : map range_of (drop j rs) ≡ [] = rw (drop_of_length-le rs h) refl in rw none meets_with_none
