-- Insertion by keys, and a stable sort by the same keys, give the same list.
use Rattle.std.proofs.Common.{arith, inl, inr, ⊎_elim, ◌≡◌, ℕ, suc, ◌<◌, ◌≤◌, Bool, true, false, true≢false, nat_lt, List, [], ◌∷◌, length, get_or, refl, sym, ap, ◌∙◌}
use Rattle.std.specs.Prelude.{cond, if◌then◌else◌, not, ◌&&◌, ◌==◌, ◌⊎◌}
use Rattle.std.specs.List.{AllByRecursion, filter}
use Rattle.std.specs.List.Sorted.{IsNonDecreasingBy, IsStableByKey, ties}
use Rattle.std.specs.Ordering.{is_lt, nat_cmp}
use Rattle.std.proofs.lemmas.Bool.{cases_lt, le-ltb, lt-ltb, ltb-true, ltb-false}
use Rattle.std.specs.declared.cmp.Ordering.TheVariants.{Less, Equal, Greater}

less_is : (b c : Bool) → is_lt (cond b Less (cond c Equal Greater)) ≡ b
less_is true c = refl
less_is false true = refl
less_is false false = refl

nat_cmp-ltb : (x y : ℕ) → is_lt (nat_cmp x y) ≡ nat_lt x y
nat_cmp-ltb x y = less_is (nat_lt x y) (x == y)

not_below : (m n : ℕ) → (m < n → ⊥) → n ≤ m
not_below m n h = ⊎_elim (λ l. absurd (h l)) (λ l. l) (cases_lt m n)

and_false : (b : Bool) → (b && false) ≡ false
and_false true = refl
and_false false = refl

module _ {X : Type 0} (k : X → ℕ) where
  abbrev pub placed : X → List X → List X
  placed m [] = m ∷ []
  placed m (n ∷ ns) = if nat_lt (k n) (k m) then n ∷ placed m ns else m ∷ (n ∷ ns)

  abbrev pub in_place : List X → List X
  in_place [] = []
  in_place (m ∷ ms) = placed m (in_place ms)

  abbrev Above : ℕ → List X → Type 0
  Above n = AllByRecursion (λ y. n ≤ k y)

  abbrev Up : List X → Type 0
  Up [] = Unit {0}
  Up (x ∷ xs) = Above (k x) xs × Up xs

  lower : (m n : ℕ) (xs : List X) → m ≤ n → Above n xs → Above m xs
  lower m n [] l a = tt
  lower m n (x ∷ xs) l a = (let b = a.0 in omega (arith, l, b), lower m n xs l a.1)

  -- ---- insertion ascends

  placed_above : (n : ℕ) (m : X) (xs : List X) → n ≤ k m → Above n xs → Above n (placed m xs)
  placed_above n m [] l a = (l, tt)
  placed_above n m (x ∷ xs) l a = by (nat_lt (k x) (k m)) (placed_above n m xs l a.1)
    where
      by : (b : Bool) → Above n (placed m xs) → Above n (if b then x ∷ placed m xs else m ∷ (x ∷ xs))
      by true r = (a.0, r)
      by false r = (l, a)

  placed_up : (m : X) (xs : List X) → Up xs → Up (placed m xs)
  placed_up m [] u = (tt, tt)
  placed_up m (x ∷ xs) u = by (nat_lt (k x) (k m)) refl (placed_up m xs u.1)
    where
      by : (b : Bool) → nat_lt (k x) (k m) ≡ b → Up (placed m xs) → Up (if b then x ∷ placed m xs else m ∷ (x ∷ xs))
      by true e r = (placed_above (k x) m xs (let l = ltb-true (k x) (k m) e in omega (arith, l)) u.0, r)
      by false e r = let l = ltb-false (k x) (k m) e in ((l, lower (k m) (k x) xs l u.0), u)

  ascends : (xs : List X) → Up (in_place xs)
  ascends [] = tt
  ascends (x ∷ xs) = placed_up x (in_place xs) (ascends xs)

  -- ---- elements with the same key

  abbrev tied : X → X → Bool
  tied = ties (λ x y. is_lt (nat_cmp (k x) (k y)))

  tied_is : (x y : X) → k x ≡ k y → tied x y ≡ true
  tied_is x y e =
      let a : is_lt (nat_cmp (k x) (k y)) ≡ false = nat_cmp-ltb (k x) (k y) ∙ le-ltb (k x) (k y) (omega (arith, e)) in
      let b : is_lt (nat_cmp (k y) (k x)) ≡ false = nat_cmp-ltb (k y) (k x) ∙ le-ltb (k y) (k x) (omega (arith, e)) in
      ap (λ q. not q && not (is_lt (nat_cmp (k y) (k x)))) a ∙ ap (λ q. true && not q) b

  not_tied : (x y : X) → k x < k y → tied x y ≡ false
  not_tied x y l = ap (λ q. not q && not (is_lt (nat_cmp (k y) (k x)))) (nat_cmp-ltb (k x) (k y) ∙ lt-ltb (k x) (k y) l)

  not_tied_above : (x y : X) → k y < k x → tied x y ≡ false
  not_tied_above x y l =
      ap (λ q. not (is_lt (nat_cmp (k x) (k y))) && not q) (nat_cmp-ltb (k y) (k x) ∙ lt-ltb (k y) (k x) l)
      ∙ and_false (not (is_lt (nat_cmp (k x) (k y))))

  -- what has a greater key is passed over
  none_tied : (x : X) (ys : List X) → Above (suc (k x)) ys → filter (tied x) ys ≡ []
  none_tied x [] a = refl
  none_tied x (y ∷ ys) a =
      ap (λ b. if b then y ∷ filter (tied x) ys else filter (tied x) ys) (not_tied x y (let l = a.0 in omega (arith, l)))
      ∙ none_tied x ys a.1

  keeps_one : (x y : X) (ys : List X) → tied x y ≡ true → filter (tied x) (y ∷ ys) ≡ y ∷ filter (tied x) ys
  keeps_one x y ys e = ap (λ b. cond b (y ∷ filter (tied x) ys) (filter (tied x) ys)) e

  drops_one : (x y : X) (ys : List X) → tied x y ≡ false → filter (tied x) (y ∷ ys) ≡ filter (tied x) ys
  drops_one x y ys e = ap (λ b. cond b (y ∷ filter (tied x) ys) (filter (tied x) ys)) e

  first_tied : (x y : X) (ys : List X) → k x ≡ k y → filter (tied x) (y ∷ ys) ≡ y ∷ filter (tied x) ys
  first_tied x y ys e = keeps_one x y ys (tied_is x y e)

  -- one of two keys at most is that of x
  second_apart : (x m n : X) → k n < k m → tied x m ≡ true → tied x n ≡ false
  second_apart x m n l e = by (cases_lt (k x) (k m))
    where
      by : (k x < k m) ⊎ (k m ≤ k x) → tied x n ≡ false
      by (inl g) = absurd (true≢false (sym e ∙ not_tied x m g))
      by (inr g) = not_tied_above x n (omega (arith, l, g))

  swapped : (x m n : X) (ns : List X) → k n < k m → filter (tied x) (n ∷ (m ∷ ns)) ≡ filter (tied x) (m ∷ (n ∷ ns))
  swapped x m n ns l = by (tied x m) refl
    where
      by : (c : Bool) → tied x m ≡ c → filter (tied x) (n ∷ (m ∷ ns)) ≡ filter (tied x) (m ∷ (n ∷ ns))
      by true e =
          let f = second_apart x m n l e in
          drops_one x n (m ∷ ns) f ∙ keeps_one x m ns e
          ∙ sym (keeps_one x m (n ∷ ns) e ∙ ap (λ r. m ∷ r) (drops_one x n ns f))
      by false e = ap (λ q. cond (tied x n) (n ∷ q) q) (drops_one x m ns e) ∙ sym (drops_one x m (n ∷ ns) e)

  -- insertion puts an element before those with the same key
  placed_tied : (x m : X) (ns : List X) → filter (tied x) (placed m ns) ≡ filter (tied x) (m ∷ ns)
  placed_tied x m [] = refl
  placed_tied x m (n ∷ ns) = by (nat_lt (k n) (k m)) refl (placed_tied x m ns)
    where
      by : (b : Bool) → nat_lt (k n) (k m) ≡ b → filter (tied x) (placed m ns) ≡ filter (tied x) (m ∷ ns)
          → filter (tied x) (if b then n ∷ placed m ns else m ∷ (n ∷ ns)) ≡ filter (tied x) (m ∷ (n ∷ ns))
      by true e r = ap (λ q. cond (tied x n) (n ∷ q) q) r ∙ swapped x m n ns (ltb-true (k n) (k m) e)
      by false e r = refl

  stays : (x : X) (xs : List X) → filter (tied x) (in_place xs) ≡ filter (tied x) xs
  stays x [] = refl
  stays x (m ∷ ms) = placed_tied x m (in_place ms) ∙ ap (λ q. cond (tied x m) (m ∷ q) q) (stays x ms)

  -- ---- lists that ascend, in which elements with the same key have the same order

  raised : (n : ℕ) (x : X) (xs : List X) → n < k x → Up (x ∷ xs) → Above (suc n) (x ∷ xs)
  raised n x xs l u = (omega (arith, l), lower (suc n) (k x) xs (omega (arith, l)) u.0)

  abbrev rest_of : List X → List X
  rest_of [] = []
  rest_of (x ∷ xs) = xs

  abbrev first_or : X → List X → X
  first_or d [] = d
  first_or d (x ∷ xs) = x

  -- what follows the same element
  rests : (x y z : X) (ys zs : List X) → y ≡ z → filter (tied x) (y ∷ ys) ≡ filter (tied x) (z ∷ zs) → filter (tied x) ys ≡ filter (tied x) zs
  rests x y z ys zs g h = by (tied x z) refl
    where
      by : (b : Bool) → tied x z ≡ b → filter (tied x) ys ≡ filter (tied x) zs
      by true t = ap rest_of (sym (keeps_one x y ys (ap (tied x) g ∙ t)) ∙ h ∙ keeps_one x z zs t)
      by false t = sym (drops_one x y ys (ap (tied x) g ∙ t)) ∙ h ∙ drops_one x z zs t

  -- the first elements have the same key
  not_first : (y z : X) (ys zs : List X) → Up (z ∷ zs) → filter (tied y) (y ∷ ys) ≡ filter (tied y) (z ∷ zs) → k y < k z → ⊥
  not_first y z ys zs v h l =
      let e : y ∷ filter (tied y) ys ≡ [] = sym (first_tied y y ys refl) ∙ h ∙ none_tied y (z ∷ zs) (raised (k y) z zs l v) in absurd (cc)

  one_list : (ys zs : List X) → Up ys → Up zs → ((x : X) → filter (tied x) ys ≡ filter (tied x) zs) → ys ≡ zs
  one_list [] [] u v h = refl
  one_list [] (z ∷ zs) u v h = let e : [] ≡ z ∷ filter (tied z) zs = h z ∙ first_tied z z zs refl in absurd (cc)
  one_list (y ∷ ys) [] u v h = let e : y ∷ filter (tied y) ys ≡ [] = sym (first_tied y y ys refl) ∙ h y in absurd (cc)
  one_list (y ∷ ys) (z ∷ zs) u v h =
      let a : k z ≤ k y = not_below (k y) (k z) (not_first y z ys zs v (h y)) in
      let b : k y ≤ k z = not_below (k z) (k y) (not_first z y zs ys u (sym (h z))) in
      let f : y ∷ filter (tied y) ys ≡ z ∷ filter (tied y) zs = sym (first_tied y y ys refl) ∙ h y ∙ first_tied y z zs (omega (arith, a, b)) in
      let g : y ≡ z = ap (first_or y) f in
      ap (λ q. q ∷ ys) g ∙ ap (λ q. z ∷ q) (one_list ys zs u.1 v.1 (λ x. rests x y z ys zs g (h x)))

  -- ---- a stable sort

  above_from : (n : ℕ) (xs : List X) → ((j : ℕ) (d : X) → j < length xs → n ≤ k (get_or xs j d)) → Above n xs
  above_from n [] h = tt
  above_from n (x ∷ xs) h = (h 0 x (omega arith), above_from n xs (λ j d l. h (suc j) d (omega (arith, l))))

  up_from : (xs : List X) → IsNonDecreasingBy k xs → Up xs
  up_from [] h = tt
  up_from (x ∷ xs) h = (
    above_from (k x) xs (λ j d l. h 0 (suc j) d (omega arith) (omega (arith, l))),
    up_from xs (λ i j d l m. h (suc i) (suc j) d (omega (arith, l)) (omega (arith, m))),
  )

  pub sorted_is : (xs ys : List X) → IsNonDecreasingBy k ys → IsStableByKey k nat_cmp xs ys → ys ≡ in_place xs
  sorted_is xs ys up same = one_list ys (in_place xs) (up_from ys up) (ascends xs) (λ x. same x ∙ sym (stays x xs))
