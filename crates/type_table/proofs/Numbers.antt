-- The numbers of items are what the definition says, and the only ones.
use Rattle.std.proofs.Common.{◌≡◌, inl, inr, ℕ, zero, suc, ◌≤◌, List, [], ◌∷◌, Some, None, refl, subst, ap, ◌∙◌, arith}
use Rattle.std.proofs.lemmas.Bool.{cases_lt}
use Rattle.std.specs.Prelude.{slice_get, ℤ, pos, negsuc, max}
use Rattle.names.specs.Modules.{OccursIn}
use Rattle.type_table.specs.Items.{WrittenItem, given_numbers, IsAbove, IsNext, AreRootNumbers, no_root_item, root_written, root_counted, AreAdditionNumbers, no_addition, addition_written, addition_counted, least_free, past, root_from, root_numbers, additions_from, addition_numbers}
use Rattle.type_table.proofs.Free.{free_is}
use Rattle.type_table.specs.proving.Sets.{IsFree}

-- n is the first number from 0 above all of these
record IsFront (earlier : List ℤ) (n : ℕ) : Type 0 where
  above : (z : ℤ) → OccursIn earlier z → IsAbove n z
  least : (m : ℕ) → ((z : ℤ) → OccursIn earlier z → IsAbove m z) → n ≤ m

front_start : IsFront [] 0
front_start = record { above = λ z s. (let e : slice_get [] s.0 ≡ Some z = s.1 in absurd cc); least = λ m h. omega arith }

weaker : (n m : ℕ) (z : ℤ) → n ≤ m → IsAbove n z → IsAbove m z
weaker n m (pos k) l a = omega (arith, l, a)
weaker n m (negsuc k) l a = tt

past_above : (n : ℕ) (z : ℤ) → IsAbove (max n (past z)) z
past_above n (pos k) = omega arith
past_above n (negsuc k) = tt

past_least : (m : ℕ) (z : ℤ) → IsAbove m z → past z ≤ m
past_least m (pos k) a = omega (arith, a)
past_least m (negsuc k) a = omega arith

above_more : (m : ℕ) (y : ℤ) (earlier : List ℤ) → IsAbove m y → ((z : ℤ) → OccursIn earlier z → IsAbove m z) →
    (z : ℤ) (i : ℕ) → slice_get (y ∷ earlier) i ≡ Some z → IsAbove m z
above_more m y earlier a h z zero e = let q : y ≡ z = cc in subst (IsAbove m) q a
above_more m y earlier a h z (suc i) e = h z (i, e)

front_written : (earlier : List ℤ) (n : ℕ) (y : ℤ) → IsFront earlier n → IsFront (y ∷ earlier) (max n (past y))
front_written earlier n y f = record {
  above = λ z s. above_more (max n (past y)) y earlier (past_above n y) (λ w t. weaker n (max n (past y)) w (omega arith) (f.above w t)) z s.0 s.1;
  least = λ m h.
      let a = f.least m (λ z s. h z (suc s.0, s.1)) in
      let b = past_least m y (h y (0, refl)) in
      omega (arith, a, b);
}

-- if n is counted, the front is after it
front_counted : (earlier : List ℤ) (n k : ℕ) → n ≤ k → IsFront earlier n → IsFront (pos k ∷ earlier) (suc k)
front_counted earlier n k l f =
    let e : max n (suc k) ≡ suc k = omega (arith, l) in
    subst (λ m. IsFront (pos k ∷ earlier) m) e (front_written earlier n (pos k) f)

next_free : (used earlier : List ℤ) (n z : ℕ) → IsFront earlier n → IsFree used n z → IsNext used earlier z
next_free used earlier n z f h = record {
  unused = h.unused;
  above = λ y s. weaker n z y h.from (f.above y s);
  least = λ m u a. elim (cases_lt m z) [
    | inl l ↦ absurd (u (h.taken m (f.least m a) l))
    | inr r ↦ r
  ];
}

roots : (given earlier : List ℤ) (n : ℕ) (is : List WrittenItem) → IsFront earlier n →
    AreRootNumbers given earlier is (root_from given n is)
roots given earlier n [] f = no_root_item
roots given earlier n ((x, Some z) ∷ is) f = root_written x z (roots given earlier n is f)
roots given earlier n ((x, None) ∷ is) f =
    let h = free_is given n in
    root_counted x (least_free n given) (next_free given earlier n (least_free n given) f h) (roots given (pos (least_free n given) ∷ earlier) (suc (least_free n given)) is (front_counted earlier n (least_free n given) h.from f))

pub root_are : (is : List WrittenItem) → AreRootNumbers (given_numbers is) [] is (root_numbers is)
root_are is = roots (given_numbers is) [] 0 is front_start

additions : (used earlier : List ℤ) (n : ℕ) (is : List WrittenItem) → IsFront earlier n →
    AreAdditionNumbers used earlier is (additions_from used n is)
additions used earlier n [] f = no_addition
additions used earlier n ((x, Some z) ∷ is) f = addition_written x z (additions used (z ∷ earlier) (max n (past z)) is (front_written earlier n z f))
additions used earlier n ((x, None) ∷ is) f =
    addition_counted x (least_free n used) (next_free used earlier n (least_free n used) f (free_is used n)) (additions used (pos (least_free n used) ∷ earlier) (max n (past (pos (least_free n used)))) is (front_written earlier n (pos (least_free n used)) f))

pub additions_are : (is more : List WrittenItem) → AreAdditionNumbers (root_numbers is) [] more
    (addition_numbers is more)
additions_are is more = additions (root_numbers is) [] 0 more front_start

-- ---- and no others

one_next : (used earlier : List ℤ) (m n : ℕ) → IsNext used earlier m → IsNext used earlier n → m ≡ n
one_next used earlier m n a b =
    let l = a.least n b.unused b.above in
    let r = b.least m a.unused a.above in
    omega (arith, l, r)

pub one_root : (given earlier : List ℤ) (is : List WrittenItem) (ys zs : List ℤ) → AreRootNumbers given earlier is ys →
    AreRootNumbers given earlier is zs → ys ≡ zs
one_root given earlier [] [] [] no_root_item no_root_item = refl
one_root given earlier [] [] (w ∷ zs) a b = elim b [ ]
one_root given earlier [] (y ∷ ys) zs a b = elim a [ ]
one_root given earlier ((x, None) ∷ is) [] zs a b = elim a [ ]
one_root given earlier ((x, None) ∷ is) (y ∷ ys) [] a b = elim b [ ]
one_root given earlier ((x, Some z) ∷ is) [] zs a b = elim a [ ]
one_root given earlier ((x, Some z) ∷ is) (y ∷ ys) [] a b = elim b [ ]
one_root given earlier ((x, Some z) ∷ is) (y ∷ ys) (w ∷ zs) (root_written x1 z1 a) (root_written x2 z2 b) = ap (λ l. z ∷ l) (one_root given earlier is ys zs a b)
one_root given earlier ((x, None) ∷ is) (y ∷ ys) (w ∷ zs) (root_counted x1 m f a) (root_counted x2 n g b) =
    let e = one_next given earlier m n f g in
    ap (λ k. pos k ∷ ys) e ∙ ap (λ l. pos n ∷ l) (one_root given (pos n ∷ earlier) is ys zs (subst (λ k. AreRootNumbers given (pos k ∷ earlier) is ys) e a) b)

pub one_additions : (used earlier : List ℤ) (is : List WrittenItem) (ys zs : List ℤ) →
    AreAdditionNumbers used earlier is ys → AreAdditionNumbers used earlier is zs → ys ≡ zs
one_additions used earlier [] [] [] no_addition no_addition = refl
one_additions used earlier [] [] (w ∷ zs) a b = elim b [ ]
one_additions used earlier [] (y ∷ ys) zs a b = elim a [ ]
one_additions used earlier ((x, None) ∷ is) [] zs a b = elim a [ ]
one_additions used earlier ((x, None) ∷ is) (y ∷ ys) [] a b = elim b [ ]
one_additions used earlier ((x, Some z) ∷ is) [] zs a b = elim a [ ]
one_additions used earlier ((x, Some z) ∷ is) (y ∷ ys) [] a b = elim b [ ]
one_additions used earlier ((x, Some z) ∷ is) (y ∷ ys) (w ∷ zs) (addition_written x1 z1 a) (addition_written x2 z2 b) = ap (λ l. z ∷ l) (one_additions used (z ∷ earlier) is ys zs a b)
one_additions used earlier ((x, None) ∷ is) (y ∷ ys) (w ∷ zs) (addition_counted x1 m f a) (addition_counted x2 n g b) =
    let e = one_next used earlier m n f g in
    ap (λ k. pos k ∷ ys) e ∙ ap (λ l. pos n ∷ l) (one_additions used (pos n ∷ earlier) is ys zs (subst (λ k. AreAdditionNumbers used (pos k ∷ earlier) is ys) e a) b)
