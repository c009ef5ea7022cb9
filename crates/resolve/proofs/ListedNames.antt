-- The names that types list, by their places.
use Rattle.std.proofs.Common.{◌≡◌, ◌<◌, ◌≤◌, ◌⊎◌, ℕ, zero, suc, ◌+◌, ◌-◌, ◌++◌, Bool, true, false, cond, List, [], ◌∷◌, None, Some, length, map, get_or, refl, sym, subst, ap, ◌∙◌, arith, inl, inr}
use Rattle.std.specs.Prelude.{slice_get, bytes_eq}
use Rattle.std.proofs.lemmas.Option.{same_Some, slice_get_past, slice_get_within}
use Rattle.std.proofs.lemmas.List.{length-map, map-append}
use Rattle.trees.specs.Values.{Name}
use Rattle.names.specs.Modules.{OccursIn}
use Rattle.names.specs.Names.{names_of, under}
use Rattle.names.specs.proving.Distinct.{equal_bytes, item_at, occurs_map, same_bytes}

-- ---- names at places

-- the name that an element has at its place
pub name_here : {X Y : Type 0} (f : X → Y) (g : Y → Name) (xs : List X) (i : ℕ) (x : X) → i < length xs →
    x ≡ get_or xs i x → slice_get (map g (map f xs)) i ≡ Some (g (f x))
name_here f g xs i x l e = occurs_map g (map f xs) i (f x) (item_at f xs i x l e)

-- past the end is no name
pub no_name : {X Y : Type 0} (f : X → Y) (g : Y → Name) (xs : List X) (i : ℕ) → length xs ≤ i →
    slice_get (map g (map f xs)) i ≡ None
no_name f g xs i l = slice_get_past (map g (map f xs)) i (omega (arith, l, length-map (map f xs) g, length-map xs f))

-- there are as many names as elements
pub as_many : {X Y : Type 0} (f : X → Y) (g : Y → Name) (xs : List X) → length (map g (map f xs)) ≡ length xs
as_many f g xs = length-map (map f xs) g ∙ length-map xs f

-- ---- lists after lists

pub front : {X : Type 0} (xs ys : List X) (i : ℕ) → i < length xs → slice_get (xs ++ ys) i ≡ slice_get xs i
front [] ys i l = absurd (omega (arith, l))
front (x ∷ xs) ys zero l = refl
front (x ∷ xs) ys (suc i) l = front xs ys i (omega (arith, l))

pub behind : {X : Type 0} (xs ys : List X) (i : ℕ) → length xs ≤ i → slice_get (xs ++ ys) i ≡ slice_get ys (i - length xs)
behind [] ys i l = let e : i ≡ i - 0 = omega arith in ap (slice_get ys) e
behind (x ∷ xs) ys zero l = absurd (omega (arith, l))
behind (x ∷ xs) ys (suc i) l =
    let e : i - length xs ≡ suc i - suc (length xs) = omega arith in
    behind xs ys i (omega (arith, l)) ∙ ap (slice_get ys) e

pub names_joined : {X : Type 0} (es fs : List (Name × X)) → names_of (es ++ fs) ≡ names_of es ++ names_of fs
names_joined es fs = map-append (λ e. e.0) es fs

-- ---- entries

module _ {X : Type 0} (x : Name) where
  passed_on : (y : Name × X) (es : List (Name × X)) (e : Name × X) (b : Bool) → bytes_eq x y.0 ≡ b → (y.0 ≡ x → ⊥) →
      under x es ≡ Some e.1 → under x (y ∷ es) ≡ Some e.1
  passed_on y es e true t f u = absurd (f (sym (equal_bytes x y.0 t)))
  passed_on y es e false t f u = ap (λ b. cond b (Some y.1) (under x es)) t ∙ u

  nothing_on : (y : Name × X) (es : List (Name × X)) (b : Bool) → bytes_eq x y.0 ≡ b → (y.0 ≡ x → ⊥) →
      under x es ≡ None → under x (y ∷ es) ≡ None
  nothing_on y es true t f u = absurd (f (sym (equal_bytes x y.0 t)))
  nothing_on y es false t f u = ap (λ b. cond b (Some y.1) (under x es)) t ∙ u

  -- the entry at the first place of a name is the one that is found
  pub under_at : (es : List (Name × X)) (i : ℕ) (e : Name × X) →
      slice_get es i ≡ Some e →
      e.0 ≡ x →
      ((j : ℕ) → j < i → slice_get (names_of es) j ≡ Some x → ⊥) →
      under x es ≡ Some e.1
  under_at [] i e s n f = absurd cc
  under_at (y ∷ es) zero e s n f =
      let q : y ≡ e = same_Some y e s in
      let t : bytes_eq x y.0 ≡ true = ap (bytes_eq x) (ap (λ z. z.0) q ∙ n) ∙ same_bytes x in
      ap (λ b. cond b (Some y.1) (under x es)) t ∙ ap (λ z. Some z.1) q
  under_at (y ∷ es) (suc i) e s n f =
      passed_on y es e (bytes_eq x y.0) refl (λ q. f 0 (omega arith) (ap Some q))
      (under_at es i e s n (λ j l h. f (suc j) (omega (arith, l)) h))

  -- a name that is in no entry has none
  pub under_nowhere : (es : List (Name × X)) → (OccursIn (names_of es) x → ⊥) → under x es ≡ None
  under_nowhere [] f = refl
  under_nowhere (y ∷ es) f =
      nothing_on y es (bytes_eq x y.0) refl (λ q. f (0, ap Some q)) (under_nowhere es (λ s. f (suc s.0, s.1)))

module _ {X Y : Type 0} (f : X → Name × Y) (xs : List X) (x : Name) where
  -- the element at the first place of a name is the one that is found
  pub entry_at : (i : ℕ) (e : X) →
      slice_get (names_of (map f xs)) i ≡ Some x →
      ((j : ℕ) → j < i → slice_get (names_of (map f xs)) j ≡ Some x → ⊥) →
      e ≡ get_or xs i e →
      under x (map f xs) ≡ Some (f e).1
  entry_at i e s n q =
      let w = slice_get_within (names_of (map f xs)) i x s in
      let m = as_many f (λ z. z.0) xs in
      let l : i < length xs = omega (arith, w, m) in
      let same : (f e).0 ≡ x = same_Some (f e).0 x (sym (name_here f (λ z. z.0) xs i e l q) ∙ s) in
      under_at x (map f xs) i (f e) (item_at f xs i e l q) same n

-- one place more at which something is not
pub one_more : (Q : ℕ → Type 0) (i : ℕ) → ((j : ℕ) → j < i → Q j → ⊥) → (Q i → ⊥) → (j : ℕ) → j < i + 1 → Q j → ⊥
one_more Q i f g j l q =
    elim (less_or_same j i l) [
      | inl m ↦ f j m q
      | inr e ↦ g (subst Q e q)
    ]
  where
    less_or_same : (j i : ℕ) → j < i + 1 → (j < i) ⊎ (j ≡ i)
    less_or_same j i l = grind (arith, l)

-- the numbers below one, and one more
pub counted_more : (xs : List ℕ) (n : ℕ) → length xs ≡ n → ((p : ℕ) → p < n → slice_get xs p ≡ Some p) → (p : ℕ) →
    p < n + 1 → slice_get (xs ++ n ∷ []) p ≡ Some p
counted_more xs n e f p l =
    elim (less_or_same p n l) [
      | inl m ↦ front xs (n ∷ []) p (omega (arith, m, e)) ∙ f p m
      | inr q ↦ behind xs (n ∷ []) p (omega (arith, q, e)) ∙ (
          let z : p - length xs ≡ 0 = omega (arith, q, e) in
          ap (slice_get (n ∷ [])) z ∙ ap Some (sym q))
    ]
  where
    less_or_same : (j i : ℕ) → j < i + 1 → (j < i) ⊎ (j ≡ i)
    less_or_same j i l = grind (arith, l)
