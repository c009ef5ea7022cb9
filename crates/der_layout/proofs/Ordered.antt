-- The order of encodings.
use Rattle.std.proofs.Common.{◌≡◌, ℕ, zero, suc, ◌+◌, ◌<◌, ◌≤◌, ◌⊎◌, inl, inr, Bool, true, false, List, [], ◌∷◌, length, map, drop, slice_index, refl, sym, subst, ◌∙◌, arith, nat_lt}
use Rattle.std.proofs.lemmas.Bool.{ltb-true, ltb-false}
use Rattle.std.specs.Prelude.{if◌then◌else◌, slice_index_or}
use Rattle.std.specs.declared.cmp.Ordering.{Ordering}
use Rattle.std.specs.declared.cmp.Ordering.TheVariants.{Less, Equal, Greater}
use Rattle.std.specs.Ordering.{is_lt}
use Rattle.std.specs.Cmp.{IsStrictWeakOrder}
use Rattle.std.specs.List.{AllByRecursion}
use Rattle.std.specs.List.Sorted.{IsSortedBy, IsNonDecreasingBy}
use Rattle.encodings.specs.Orders.{Ascending, ascending_none, ascending_one, ascending_more, AtMost}
use Rattle.codec_code.specs.Events.{encodings_of, RanksAscend}
use Rattle.der_layout.specs.declared.table.Member.{Member}
use Rattle.der_layout.specs.Tables.{span, placed_of}
use Rattle.der_layout.specs.Octets.{first_differs, order}

drop_none : (i : ℕ) → drop {A = ℕ} i [] ≡ []
drop_none zero = refl
drop_none (suc i) = refl

-- the octet at a place, 0 past the end
pub order_at : (xs ys : List ℕ) (i : ℕ) → order (drop i xs) (drop i ys) ≡ first_differs (slice_index xs i) (slice_index ys i) (order (drop (suc i) xs) (drop (suc i) ys))
order_at [] [] zero = refl
order_at [] (y ∷ ys) zero = refl
order_at (x ∷ xs) [] zero = refl
order_at (x ∷ xs) (y ∷ ys) zero = refl
order_at [] [] (suc i) = refl
order_at [] (y ∷ ys) (suc i) = subst (λ q. order q (drop i ys) ≡ first_differs 0 (slice_index ys i) (order [] (drop (suc i) ys))) (drop_none i) (order_at [] ys i)
order_at (x ∷ xs) [] (suc i) = subst (λ q. order (drop i xs) q ≡ first_differs (slice_index xs i) 0 (order (drop (suc i) xs) [])) (drop_none i) (order_at xs [] i)
order_at (x ∷ xs) (y ∷ ys) (suc i) = order_at xs ys i

pub order_end : (xs ys : List ℕ) (i : ℕ) → length xs ≤ i → length ys ≤ i → order (drop i xs) (drop i ys) ≡ Equal
order_end [] [] zero h k = refl
order_end [] (y ∷ ys) zero h k = absurd (omega arith)
order_end (x ∷ xs) ys zero h k = absurd (omega arith)
order_end [] [] (suc i) h k = refl
order_end [] (y ∷ ys) (suc i) h k = subst (λ q. order q (drop i ys) ≡ Equal) (drop_none i) (order_end [] ys i (omega arith) (omega arith))
order_end (x ∷ xs) [] (suc i) h k = subst (λ q. order (drop i xs) q ≡ Equal) (drop_none i) (order_end xs [] i (omega arith) (omega arith))
order_end (x ∷ xs) (y ∷ ys) (suc i) h k = order_end xs ys i (omega arith) (omega arith)

by_test : (x y : ℕ) (o : Ordering) (b c : Bool) → nat_lt x y ≡ b → nat_lt y x ≡ c → is_lt (if b then Less else (if c then Greater else o)) ≡ false → (y < x) ⊎ ((y ≡ x) × (is_lt o ≡ false))
by_test x y o true c e f h = absurd (let g : true ≡ false = h in cc)
by_test x y o false true e f h = inl (ltb-true y x f)
by_test x y o false false e f h = inr ((let a = ltb-false x y e in let b = ltb-false y x f in let g : y ≡ x = omega arith in g), h)

-- not less
pub differs : (x y : ℕ) (o : Ordering) → is_lt (first_differs x y o) ≡ false → (y < x) ⊎ ((y ≡ x) × (is_lt o ≡ false))
differs x y o h = by_test x y o (nat_lt x y) (nat_lt y x) refl refl h

to_test : (x y : ℕ) (o : Ordering) (b c : Bool) → nat_lt x y ≡ b → nat_lt y x ≡ c → ((y < x) ⊎ ((y ≡ x) × (is_lt o ≡ false))) → is_lt (if b then Less else (if c then Greater else o)) ≡ false
to_test x y o true c e f (inl l) = absurd (let a = ltb-true x y e in omega arith)
to_test x y o true c e f (inr p) = absurd (let q = p.0 in let a = ltb-true x y e in omega arith)
to_test x y o false true e f h = refl
to_test x y o false false e f (inl l) = absurd (let a = ltb-false y x f in omega arith)
to_test x y o false false e f (inr p) = p.1

not_less : (x y : ℕ) (o : Ordering) → ((y < x) ⊎ ((y ≡ x) × (is_lt o ≡ false))) → is_lt (first_differs x y o) ≡ false
not_less x y o h = to_test x y o (nat_lt x y) (nat_lt y x) refl refl h

zero_or : (x : ℕ) → (0 < x) ⊎ (0 ≡ x)
zero_or zero = inr refl
zero_or (suc x) = inl (omega arith)

pub at_most : (xs ys : List ℕ) → is_lt (order ys xs) ≡ false → AtMost xs ys
at_most [] ys h = tt
at_most (x ∷ xs) [] h = elim (differs 0 x (order [] xs) h) [ inl l ↦ absurd (omega arith) | inr p ↦ (p.0, at_most xs [] p.1) ]
at_most (x ∷ xs) (y ∷ ys) h = elim (differs y x (order ys xs) h) [ inl l ↦ inl l | inr p ↦ inr (p.0, at_most xs ys p.1) ]

pub from_at_most : (xs ys : List ℕ) → AtMost xs ys → is_lt (order ys xs) ≡ false
from_at_most [] [] h = refl
from_at_most [] (y ∷ ys) h = not_less y 0 (order ys []) (elim (zero_or y) [ inl l ↦ inl l | inr e ↦ inr (e, from_at_most [] ys tt) ])
from_at_most (x ∷ xs) [] h = not_less 0 x (order [] xs) (inr (h.0, from_at_most xs [] h.1))
from_at_most (x ∷ xs) (y ∷ ys) h = not_less y x (order ys xs) (elim h [ inl l ↦ inl l | inr p ↦ inr (p.0, from_at_most xs ys p.1) ])

at_most_both : (xs ys zs : List ℕ) → AtMost xs ys → AtMost ys zs → AtMost xs zs
at_most_both [] ys zs h k = tt
at_most_both (x ∷ xs) [] [] h k = h
at_most_both (x ∷ xs) [] (z ∷ zs) h k = elim (zero_or z) [ inl l ↦ inl (let e = h.0 in omega arith) | inr f ↦ inr (h.0 ∙ f, at_most_both xs [] zs h.1 tt) ]
at_most_both (x ∷ xs) (y ∷ ys) [] h k = elim h [ inl l ↦ absurd (let e = k.0 in omega arith) | inr p ↦ (p.0 ∙ k.0, at_most_both xs ys [] p.1 k.1) ]
at_most_both (x ∷ xs) (y ∷ ys) (z ∷ zs) h k = elim h [
  | inl l ↦ elim k [ inl m ↦ inl (omega arith) | inr q ↦ inl (let e = q.0 in omega arith) ]
  | inr p ↦ elim k [ inl m ↦ inl (let e = p.0 in omega arith) | inr q ↦ inr (p.0 ∙ q.0, at_most_both xs ys zs p.1 q.1) ]
]

either : (x y : ℕ) (xs ys : List ℕ) (b c : Bool) → nat_lt x y ≡ b → nat_lt y x ≡ c → AtMost xs ys ⊎ AtMost ys xs → AtMost (x ∷ xs) (y ∷ ys) ⊎ AtMost (y ∷ ys) (x ∷ xs)
either x y xs ys true c e f h = inl (inl (ltb-true x y e))
either x y xs ys false true e f h = inr (inl (ltb-true y x f))
either x y xs ys false false e f (inl l) = inl (inr ((let a = ltb-false x y e in let b = ltb-false y x f in let g : x ≡ y = omega arith in g), l))
either x y xs ys false false e f (inr r) = inr (inr ((let a = ltb-false x y e in let b = ltb-false y x f in let g : y ≡ x = omega arith in g), r))

at_most_or : (xs ys : List ℕ) → AtMost xs ys ⊎ AtMost ys xs
at_most_or [] ys = inl tt
at_most_or (x ∷ xs) [] = inr tt
at_most_or (x ∷ xs) (y ∷ ys) = either x y xs ys (nat_lt x y) (nat_lt y x) refl refl (at_most_or xs ys)

abbrev pub before : List ℕ → Member → Member → Bool
before o m n = is_lt (order (span o m) (span o n))

true_not_false : {b : Bool} → b ≡ true → b ≡ false → ⊥
true_not_false e f = let g : true ≡ false = sym e ∙ f in cc

pub weak_order_by : {X : Type 0} (f : X → List ℕ) → IsStrictWeakOrder (λ x y. is_lt (order (f x) (f y)))
weak_order_by f = record {
  one_way = λ x y h. elim (at_most_or (f x) (f y)) [
    | inl l ↦ from_at_most (f x) (f y) l
    | inr r ↦ absurd (true_not_false h (from_at_most (f y) (f x) r))
  ];
  chain = λ x y z h k. from_at_most (f z) (f x)
      (at_most_both (f z) (f y) (f x) (at_most (f z) (f y) k) (at_most (f y) (f x) h));
}

pub weak_order : (o : List ℕ) → IsStrictWeakOrder (before o)
weak_order o = weak_order_by (span o)

pub ascending_from : (o : List ℕ) (ms : List Member) → IsSortedBy (before o) ms → Ascending AtMost (encodings_of (map (placed_of o) ms))
ascending_from o [] h = ascending_none
ascending_from o (m ∷ []) h = ascending_one
ascending_from o (m ∷ n ∷ ms) h = ascending_more (at_most (span o m) (span o n) (h 0 m (omega arith) (omega arith)))
    (ascending_from o (n ∷ ms) (λ k d l g.
    let e : suc k + 1 ≡ suc (k + 1) = omega arith in
    subst (λ q. before o (slice_index_or (m ∷ n ∷ ms) q d) (slice_index_or (n ∷ ms) k d) ≡ false) e (h (suc k) d (omega arith) (omega arith))))

above : (o : List ℕ) (m : Member) (ms : List Member) → ((k : ℕ) (d : Member) → k < length ms → m.rank ≤ (slice_index_or ms k d).rank) → AllByRecursion (λ q. m.rank ≤ q.rank) (map (placed_of o) ms)
above o m [] h = tt
above o m (n ∷ ms) h = (h 0 n (omega arith), above o m ms (λ k d l. h (suc k) d (omega arith)))

pub ranks_from : (o : List ℕ) (ms : List Member) → IsNonDecreasingBy (λ m. m.rank) ms → RanksAscend (map (placed_of o) ms)
ranks_from o [] h = tt
ranks_from o (m ∷ ms) h = (
  above o m ms (λ k d l. h 0 (suc k) d (omega arith) (omega arith)),
  ranks_from o ms (λ i j d l r. h (suc i) (suc j) d (omega arith) (omega arith)),
)
