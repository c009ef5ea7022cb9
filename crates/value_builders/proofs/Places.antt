-- Searching a list for a name.
use Rattle.std.proofs.Common.{◌≡◌, ℕ, zero, suc, ◌+◌, ◌<◌, ◌≤◌, ℤ, Bool, true, false, List, [], ◌∷◌, ◌++◌, Option, Some, None, refl, ap, ◌∙◌, take, length, map, get_or, arith, cond}
use Rattle.std.specs.Prelude.{bytes_eq, slice_get, option_map}
use Rattle.std.proofs.lemmas.Option.{slice_get-map, slice_get_read}
use Rattle.asn_base.specs.Types.{Item}
use Rattle.value_builders.specs.Named.{place_of, number_of}

pub seen_by : {A B : Type 0} (f : A → B) (xs : List A) (i : ℕ) (x : A) → slice_get xs i ≡ Some x → slice_get (map f xs) i ≡ Some (f x)
seen_by f xs i x e = slice_get-map f xs i ∙ ap (option_map f) e

-- ---- places

passed_place : (b : Bool) (o : Option ℕ) → cond b (Some 0) (option_map suc o) ≡ None → (b ≡ false) × (o ≡ None)
passed_place true o e = absurd cc
passed_place false None e = (refl, refl)
passed_place false (Some k) e = absurd cc

pub place_at : (n : List ℕ) (ms : List (List ℕ)) (i : ℕ) (m : List ℕ) → place_of (take i ms) n ≡ None → slice_get ms i ≡ Some m → bytes_eq m n ≡ true → place_of ms n ≡ Some i
place_at n [] i m a s b = absurd cc
place_at n (y ∷ ms) zero m a s b = let q : y ≡ m = cc in rw (q, b) refl
place_at n (y ∷ ms) (suc i) m a s b =
    let p = passed_place (bytes_eq y n) (place_of (take i ms) n) a in
    rw (p.0) (ap (option_map suc) (place_at n ms i m p.1 s b))

pub place_past : (n : List ℕ) (ms : List (List ℕ)) (i : ℕ) (m : List ℕ) → place_of (take i ms) n ≡ None → slice_get ms i ≡ Some m → bytes_eq m n ≡ false → place_of (take (i + 1) ms) n ≡ None
place_past n [] i m a s b = absurd cc
place_past n (y ∷ ms) zero m a s b = let q : y ≡ m = cc in rw (q, b) refl
place_past n (y ∷ ms) (suc i) m a s b =
    let p = passed_place (bytes_eq y n) (place_of (take i ms) n) a in
    let q : suc i + 1 ≡ suc (i + 1) = omega arith in
    rw (q, p.0) (ap (option_map suc) (place_past n ms i m p.1 s b))

pub no_place : (n : List ℕ) (ms : List (List ℕ)) (i : ℕ) → place_of (take i ms) n ≡ None → length ms ≤ i → place_of ms n ≡ None
no_place n [] i a l = refl
no_place n (y ∷ ms) zero a l = absurd (omega (arith, l))
no_place n (y ∷ ms) (suc i) a l =
    let p = passed_place (bytes_eq y n) (place_of (take i ms) n) a in
    rw (p.0) (ap (option_map suc) (no_place n ms i p.1 (omega (arith, l))))

-- a name in two lists, one after the other
pub place_first : (n : List ℕ) (ms ns : List (List ℕ)) (i : ℕ) → place_of ms n ≡ Some i → place_of (ms ++ ns) n ≡ Some i
place_first n [] ns i e = absurd cc
place_first n (m ∷ ms) ns i e = by (bytes_eq m n) (place_of ms n) (place_of (ms ++ ns) n) i (λ j f. place_first n ms ns j f) e
  where
    by : (b : Bool) (o p : Option ℕ) (i : ℕ) → ((j : ℕ) → o ≡ Some j → p ≡ Some j) → cond b (Some 0) (option_map suc o) ≡ Some i → cond b (Some 0) (option_map suc p) ≡ Some i
    by true o p i f e = e
    by false None p i f e = absurd cc
    by false (Some j) p i f e = ap (option_map suc) (f j refl) ∙ e

pub place_second : (n : List ℕ) (ms ns : List (List ℕ)) (i : ℕ) → place_of ms n ≡ None → place_of ns n ≡ Some i → place_of (ms ++ ns) n ≡ Some (length ms + i)
place_second n [] ns i e f = f ∙ ap Some (let q : i ≡ 0 + i = omega arith in q)
place_second n (m ∷ ms) ns i e f =
    let p = passed_place (bytes_eq m n) (place_of ms n) e in
    rw (p.0) (ap (option_map suc) (place_second n ms ns i p.1 f) ∙ ap Some (let q : suc (length ms + i) ≡ suc (length ms) + i = omega arith in q))

pub place_nowhere : (n : List ℕ) (ms ns : List (List ℕ)) → place_of ms n ≡ None → place_of ns n ≡ None → place_of (ms ++ ns) n ≡ None
place_nowhere n [] ns e f = f
place_nowhere n (m ∷ ms) ns e f =
    let p = passed_place (bytes_eq m n) (place_of ms n) e in
    rw (p.0) (ap (option_map suc) (place_nowhere n ms ns p.1 f))

pub map_append : {A B : Type 0} (f : A → B) (xs ys : List A) → map f (xs ++ ys) ≡ map f xs ++ map f ys
map_append f [] ys = refl
map_append f (x ∷ xs) ys = ap (λ q. f x ∷ q) (map_append f xs ys)

-- ---- numbers of items

passed_number : (b : Bool) (z : ℤ) (o : Option ℤ) → cond b (Some z) o ≡ None → (b ≡ false) × (o ≡ None)
passed_number true z o e = absurd cc
passed_number false z o e = (refl, e)

pub number_at : (n : List ℕ) (ms : List Item) (i : ℕ) (m : Item) → number_of (take i ms) n ≡ None → slice_get ms i ≡ Some m → bytes_eq m.name n ≡ true → number_of ms n ≡ Some m.number
number_at n [] i m a s b = absurd cc
number_at n (y ∷ ms) zero m a s b = let q : y ≡ m = cc in rw (q, b) refl
number_at n (y ∷ ms) (suc i) m a s b =
    let p = passed_number (bytes_eq y.name n) y.number (number_of (take i ms) n) a in
    rw (p.0) (number_at n ms i m p.1 s b)

pub number_past : (n : List ℕ) (ms : List Item) (i : ℕ) (m : Item) → number_of (take i ms) n ≡ None → slice_get ms i ≡ Some m → bytes_eq m.name n ≡ false → number_of (take (i + 1) ms) n ≡ None
number_past n [] i m a s b = absurd cc
number_past n (y ∷ ms) zero m a s b = let q : y ≡ m = cc in rw (q, b) refl
number_past n (y ∷ ms) (suc i) m a s b =
    let p = passed_number (bytes_eq y.name n) y.number (number_of (take i ms) n) a in
    let q : suc i + 1 ≡ suc (i + 1) = omega arith in
    rw (q, p.0) (number_past n ms i m p.1 s b)

pub no_number : (n : List ℕ) (ms : List Item) (i : ℕ) → number_of (take i ms) n ≡ None → length ms ≤ i → number_of ms n ≡ None
no_number n [] i a l = refl
no_number n (y ∷ ms) zero a l = absurd (omega (arith, l))
no_number n (y ∷ ms) (suc i) a l =
    let p = passed_number (bytes_eq y.name n) y.number (number_of (take i ms) n) a in
    rw (p.0) (no_number n ms i p.1 (omega (arith, l)))

pub number_first : (n : List ℕ) (ms ns : List Item) (z : ℤ) → number_of ms n ≡ Some z → number_of (ms ++ ns) n ≡ Some z
number_first n [] ns z e = absurd cc
number_first n (m ∷ ms) ns z e = by (bytes_eq m.name n) m.number (number_of ms n) (number_of (ms ++ ns) n) (λ f. number_first n ms ns z f) e
  where
    by : (b : Bool) (y : ℤ) (o p : Option ℤ) → (o ≡ Some z → p ≡ Some z) → cond b (Some y) o ≡ Some z → cond b (Some y) p ≡ Some z
    by true y o p f e = e
    by false y o p f e = f e

pub number_second : (n : List ℕ) (ms ns : List Item) → number_of ms n ≡ None → number_of (ms ++ ns) n ≡ number_of ns n
number_second n [] ns e = refl
number_second n (m ∷ ms) ns e =
    let p = passed_number (bytes_eq m.name n) m.number (number_of ms n) e in
    rw (p.0) (number_second n ms ns p.1)
