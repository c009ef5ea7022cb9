-- Names that are in a list, and lists in which no name is twice.
use Rattle.std.proofs.Common.{◌≡◌, ◌<◌, ◌≤◌, ◌⊎◌, inl, inr, ℕ, zero, suc, ◌+◌, ◌++◌, Bool, true, false, cond, List, [], ◌∷◌, Some, None, length, map, drop, take, get_or, refl, sym, subst, ap, ◌∙◌, arith, below_more}
use Rattle.std.specs.Prelude.{slice_get, bytes_eq}
use Rattle.std.specs.List.{AllByRecursion}
use Rattle.std.proofs.Math.Seq.{drop-cons}
use Rattle.std.proofs.lemmas.List.{drop_all, length-take-le, take-append-drop}
use Rattle.std.proofs.lemmas.Option.{same_Some, slice_get_within, slice_get_read}
use Rattle.std.proofs.lemmas.Slice.Eq.{bytes_eq-Decides}
use Rattle.trees.specs.Values.{Name}
use Rattle.names.specs.Faults.{IsFirstAgain}
use Rattle.names.specs.Names.{names_of, under}
use Rattle.names.specs.Modules.{OccursIn, OccursTwice, AreDifferent}

pub left : {X : Type 0} (xs ys : List X) (k : ℕ) (x : X) → slice_get xs k ≡ Some x → slice_get (xs ++ ys) k ≡ Some x
left [] ys k x e = absurd cc
left (z ∷ xs) ys zero x e = e
left (z ∷ xs) ys (suc k) x e = left xs ys k x e

pub right : {X : Type 0} (xs ys : List X) (k : ℕ) → slice_get (xs ++ ys) (length xs + k) ≡ slice_get ys k
right [] ys k = let e : 0 + k ≡ k = omega arith in ap (λ n. slice_get ys n) e
right (z ∷ xs) ys k = let e : suc (length xs) + k ≡ suc (length xs + k) =
    omega arith in ap (λ n. slice_get (z ∷ (xs ++ ys)) n) e ∙ right xs ys k

-- an item of two joined lists is in the first or in the second
pub either : {X : Type 0} (xs ys : List X) (m : ℕ) (x : X) → slice_get (xs ++ ys) m ≡ Some x →
    (slice_get xs m ≡ Some x) ⊎ ((q : ℕ) × (m ≡ length xs + q) × (slice_get ys q ≡ Some x))
either [] ys m x e = let z : m ≡ 0 + m = omega arith in inr (m, z, e)
either (y ∷ xs) ys zero x e = inl e
either (y ∷ xs) ys (suc m) x e =
    elim (either xs ys m x e) [
      | inl f ↦ inl f
      | inr r ↦ (let z : suc m ≡ suc (length xs) + r.0 = omega (arith, r.1) in inr (r.0, z, r.2))
    ]

pub occurs_left : {X : Type 0} (xs ys : List X) (x : X) → OccursIn xs x → OccursIn (xs ++ ys) x
occurs_left xs ys x s = (s.0, left xs ys s.0 x s.1)

pub occurs_right : {X : Type 0} (xs ys : List X) (x : X) → OccursIn ys x → OccursIn (xs ++ ys) x
occurs_right xs ys x s = (length xs + s.0, right xs ys s.0 ∙ s.1)

pub occurs_either : {X : Type 0} (xs ys : List X) (x : X) → OccursIn (xs ++ ys) x → OccursIn xs x ⊎ OccursIn ys x
occurs_either xs ys x s =
    elim (either xs ys s.0 x s.1) [
      | inl f ↦ inl (s.0, f)
      | inr r ↦ inr (r.0, r.2)
    ]

pub occurs_map : {X Y : Type 0} (f : X → Y) (xs : List X) (k : ℕ) (x : X) → slice_get xs k ≡ Some x →
    slice_get (map f xs) k ≡ Some (f x)
occurs_map f [] k x e = absurd cc
occurs_map f (z ∷ xs) zero x e = let q : z ≡ x = cc in ap (λ y. Some (f y)) q
occurs_map f (z ∷ xs) (suc k) x e = occurs_map f xs k x e

pub mapped : {X Y : Type 0} (f : X → Y) (xs : List X) (k : ℕ) (y : Y) → slice_get (map f xs) k ≡ Some y →
    (x : X) × (slice_get xs k ≡ Some x) × (f x ≡ y)
mapped f [] k y e = absurd cc
mapped f (x ∷ xs) zero y e = (x, refl, (let q : f x ≡ y = cc in q))
mapped f (x ∷ xs) (suc k) y e = mapped f xs k y e

pub twice_left : {X : Type 0} (xs ys : List X) (x : X) → OccursTwice xs x → OccursTwice (xs ++ ys) x
twice_left xs ys x t = record {
  first = t.first;
  second = t.second;
  apart = t.apart;
  here =
      left xs ys t.first x t.here;
  there = left xs ys t.second x t.there;
}

pub twice_across : {X : Type 0} (xs ys : List X) (x : X) → OccursIn xs x → OccursIn ys x → OccursTwice (xs ++ ys) x
twice_across xs ys x s t =
    let w = slice_get_within xs s.0 x s.1 in
    record {
      first = s.0;
      second = length xs + t.0;
      apart = omega (arith, w);
      here = left xs ys s.0 x s.1;
      there =
          right xs ys t.0 ∙ t.1;
    }

one_at : {X : Type 0} (x y : X) (k : ℕ) → slice_get (x ∷ []) k ≡ Some y → (k ≡ 0) × (x ≡ y)
one_at x y zero e = (refl, (let q : x ≡ y = cc in q))
one_at x y (suc k) e = absurd cc

pub occurs_once : {X : Type 0} (x y : X) → OccursIn (x ∷ []) y → x ≡ y
occurs_once x y s = (one_at x y s.0 s.1).1

pub distinct_none : {X : Type 0} → AreDifferent {A = X} []
distinct_none {X} x t = let e : slice_get {X = X} [] t.first ≡ Some x = t.here in absurd cc

-- a name that isn't in the list yet may be added at its end
pub distinct_more : {X : Type 0} (xs : List X) (x : X) → AreDifferent xs → (OccursIn xs x → ⊥) →
    AreDifferent (xs ++ x ∷ [])
distinct_more xs x d fresh y t =
    elim (either xs (x ∷ []) t.second y t.there) [
      | inl f ↦ elim (either xs (x ∷ []) t.first y t.here) [
        | inl g ↦ d y (record { first = t.first; second = t.second; apart = t.apart; here = g; there = f })
        | inr r ↦ (let w = slice_get_within xs t.second y f in let a = t.apart in absurd (omega (arith, w, a, r.1)))
      ]
      | inr r ↦ (let o = one_at x y r.0 r.2 in elim (either xs (x ∷ []) t.first y t.here) [
        | inl g ↦ fresh (t.first, g ∙ ap Some (sym o.1))
        | inr q ↦ (let p = one_at x y q.0 q.2 in let a = t.apart in absurd (omega (arith, r.1, q.1, o.0, p.0, a)))
      ])
    ]

-- ---- places of a list

pub drop_at : {X : Type 0} (xs : List X) (i : ℕ) (x : X) → i < length xs → x ≡ get_or xs i x →
    drop i xs ≡ x ∷ drop (i + 1) xs
drop_at xs i x l e =
    let n : i + 1 ≡ suc i = omega arith in
    drop-cons xs i x l ∙ ap (λ y. y ∷ drop (suc i) xs) (sym e) ∙ ap (λ k. x ∷ drop k xs) (sym n)

-- the element at index i, in the list as f sees it
pub item_at : {X Y : Type 0} (f : X → Y) (xs : List X) (i : ℕ) (x : X) → i < length xs → x ≡ get_or xs i x →
    slice_get (map f xs) i ≡ Some (f x)
item_at f xs i x l e = occurs_map f xs i x (slice_get_read xs (length xs) i x refl l e)

pub none_left : {X : Type 0} (xs : List X) (i : ℕ) → length xs ≤ i → drop i xs ≡ []
none_left xs i l = drop_all i xs l

pub at_all : {X : Type 0} (P : X → Type 0) (xs : List X) (k : ℕ) (x : X) → AllByRecursion P xs →
    slice_get xs k ≡ Some x → P x
at_all P [] k x a e = absurd cc
at_all P (y ∷ xs) zero x a e = let q : y ≡ x = cc in subst P q a.0
at_all P (y ∷ xs) (suc k) x a e = at_all P xs k x a.1 e

-- what is true of the first items of a list and of the next is true of one item more
pub each_more : {X : Type 0} (xs : List X) (P : X → Type 0) (i : ℕ) (x : X) → slice_get xs i ≡ Some x →
    ((k : ℕ) (y : X) → k < i → slice_get xs k ≡ Some y → P y) → P x → (k : ℕ) (y : X) → k < i + 1 →
    slice_get xs k ≡ Some y → P y
each_more xs P i x e below here k y l h =
    below_more (λ j. (u : _) → slice_get xs j ≡ Some u → P u) i (λ j m u q. below j u m q)
    (λ u q. subst P (same_Some x u (sym e ∙ q)) here) k l y h

-- ---- fronts of lists

pub to_front : {X : Type 0} (xs : List X) (i k : ℕ) (x : X) → k < i → slice_get xs k ≡ Some x →
    slice_get (take i xs) k ≡ Some x
to_front [] i k x l h = absurd cc
to_front (y ∷ ys) zero k x l h = absurd (omega (arith, l))
to_front (y ∷ ys) (suc i) zero x l h = h
to_front (y ∷ ys) (suc i) (suc k) x l h = to_front ys i k x (omega (arith, l)) h

pub of_front : {X : Type 0} (xs : List X) (i k : ℕ) (x : X) → slice_get (take i xs) k ≡ Some x →
    (k < i) × (slice_get xs k ≡ Some x)
of_front [] zero k x h = absurd cc
of_front [] (suc i) k x h = absurd cc
of_front (y ∷ ys) zero k x h = absurd cc
of_front (y ∷ ys) (suc i) zero x h = (omega arith, h)
of_front (y ∷ ys) (suc i) (suc k) x h = let r = of_front ys i k x h in (omega (arith, r.0), r.1)

-- ---- tables of names

pub same_bytes : (x : Name) → bytes_eq x x ≡ true
same_bytes x = (bytes_eq-Decides x x).1 refl

pub equal_bytes : (x y : Name) → bytes_eq x y ≡ true → x ≡ y
equal_bytes x y = (bytes_eq-Decides x y).0

none_on : {X : Type 0} (x : Name) (e : Name × X) (es : List (Name × X)) (b : Bool) → bytes_eq x e.0 ≡ b →
    cond b (Some e.1) (under x es) ≡ None → (under x es ≡ None → OccursIn (names_of es) x → ⊥) → (i : ℕ) →
    slice_get (names_of (e ∷ es)) i ≡ Some x → ⊥
none_on x e es true q u go i s = absurd cc
none_on x e es false q u go zero s =
    let n : e.0 ≡ x = cc in
    let t : bytes_eq x e.0 ≡ true = ap (bytes_eq x) n ∙ same_bytes x in
    absurd cc
none_on x e es false q u go (suc i) s = go u (i, s)

-- a name without an entry is none of the names
pub under_none : {X : Type 0} (x : Name) (es : List (Name × X)) → under x es ≡ None → OccursIn (names_of es) x → ⊥
under_none {X} x [] u s = let e : slice_get {X = Name} [] s.0 ≡ Some x = s.1 in absurd cc
under_none x (e ∷ es) u s = none_on x e es (bytes_eq x e.0) refl u (under_none x es) s.0 s.1

some_on : {X : Type 0} (x : Name) (e : Name × X) (es : List (Name × X)) (a : X) (b : Bool) → bytes_eq x e.0 ≡ b →
    cond b (Some e.1) (under x es) ≡ Some a → (under x es ≡ Some a → OccursIn es (x, a)) → OccursIn (e ∷ es) (x, a)
some_on x e es a true q u go =
    let n : x ≡ e.0 = equal_bytes x e.0 q in
    let v : e.1 ≡ a = cc in
    (zero, ap (λ y. Some (y, e.1)) (sym n) ∙ ap (λ y. Some (x, y)) v)
some_on x e es a false q u go = let s = go u in (suc s.0, s.1)

-- the entry of a name is in the table
pub under_some : {X : Type 0} (x : Name) (es : List (Name × X)) (a : X) → under x es ≡ Some a → OccursIn es (x, a)
under_some x [] a u = absurd cc
under_some x (e ∷ es) a u = some_on x e es a (bytes_eq x e.0) refl u (under_some x es a)

pub name_under : {X : Type 0} (x : Name) (es : List (Name × X)) (a : X) → under x es ≡ Some a → OccursIn (names_of es) x
name_under x es a u = let s = under_some x es a u in (s.0, occurs_map (λ (e : Name × _). e.0) es s.0 (x, a) s.1)

-- a name that is also before its place is there twice
pub again_twice : (xs : List Name) (x : Name) → IsFirstAgain xs x → OccursTwice xs x
again_twice xs x a =
    let w = slice_get_within (take a.number xs) a.again.0 x a.again.1 in
    let v = slice_get_within xs a.number x a.there in
    let s = length-take-le a.number xs (omega (arith, v)) in
    record {
      first = a.again.0;
      second = a.number;
      apart = omega (arith, w, s);
      here = subst (λ l. slice_get l a.again.0 ≡ Some x) (take-append-drop a.number xs)
          (left (take a.number xs) (drop a.number xs) a.again.0 x a.again.1);
      there = a.there;
    }
