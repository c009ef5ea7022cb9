-- What is noted for types, one by one.
use Rattle.std.proofs.Common.{◌≡◌, ◌⊎◌, inl, inr, ℕ, zero, suc, ◌+◌, ◌<◌, ◌≤◌, List, [], ◌∷◌, ◌++◌, Option, Some, None, true, ◌-◌, length, refl, sym, ap, ◌∙◌, subst, arith}
use Rattle.std.specs.Prelude.{slice_get, slice_set, is_some}
use Rattle.std.specs.List.{AllByRecursion}
use Rattle.asn_base.specs.Names.{IsMember, is_first, is_later}
use Rattle.type_table.specs.Table.{Type', next}
use Rattle.resolve.specs.Program.{Program}
use Rattle.constraints.specs.declared.limit.Limit.{Limit}
use Rattle.constraints.specs.proving.Columns.{IsLimitOf, IsNoted, AreNoted, IsTrail, noted_in, limit_noted, number_in, number_noted}

pub some_same : {X : Type 0} (x y : X) → Some x ≡ Some y → x ≡ y
some_same x y e = cc

set_here : {A : Type 0} (xs : List A) (i : ℕ) (x : A) → i < length xs → slice_get (slice_set xs i x) i ≡ Some x
set_here [] i x l = absurd (omega (arith, l))
set_here (y ∷ xs) zero x l = refl
set_here (y ∷ xs) (suc i) x l = set_here xs i x (omega (arith, l))

set_long : {A : Type 0} (xs : List A) (i : ℕ) (x : A) → length (slice_set xs i x) ≡ length xs
set_long [] i x = refl
set_long (y ∷ xs) zero x = refl
set_long (y ∷ xs) (suc i) x = ap suc (set_long xs i x)

-- an element at place j afterwards is new, or was there before
set_either : {A : Type 0} (xs : List A) (i j : ℕ) (x y : A) →
    slice_get (slice_set xs i x) j ≡ Some y →
    ((j ≡ i) × (y ≡ x)) ⊎ (slice_get xs j ≡ Some y)
set_either [] i j x y e = absurd cc
set_either (z ∷ xs) zero zero x y e = let q : x ≡ y = cc in inl (refl, sym q)
set_either (z ∷ xs) zero (suc j) x y e = inr e
set_either (z ∷ xs) (suc i) zero x y e = inr e
set_either (z ∷ xs) (suc i) (suc j) x y e =
    elim (set_either xs i j x y e) [
      | inl h ↦ inl (ap suc h.0, h.1)
      | inr h ↦ inr h
    ]

-- the element at place j is still there, or a new one is at place i
set_kept : {A : Type 0} (xs : List A) (i j : ℕ) (x y : A) →
    slice_get xs j ≡ Some y →
    (slice_get (slice_set xs i x) j ≡ Some y) ⊎ (slice_get (slice_set xs i x) j ≡ Some x)
set_kept [] i j x y e = absurd cc
set_kept (z ∷ xs) zero zero x y e = inr refl
set_kept (z ∷ xs) zero (suc j) x y e = inl e
set_kept (z ∷ xs) (suc i) zero x y e = inl e
set_kept (z ∷ xs) (suc i) (suc j) x y e = set_kept xs i j x y e

pub kept_set : (at : List (Option ℕ)) (ty a i : ℕ) → IsNoted at i → IsNoted (slice_set at ty (Some a)) i
kept_set at ty a i n =
    elim (set_kept at ty i (Some a) (Some n.0) n.1) [
      | inl e ↦ (n.0, e)
      | inr e ↦ (a, e)
    ]

pub noted_set : (at : List (Option ℕ)) (ty a : ℕ) → ty < length at → IsNoted (slice_set at ty (Some a)) ty
noted_set at ty a l = (a, set_here at ty (Some a) l)

pub are_set : (p : Program) (at : List (Option ℕ)) (limits more : List Limit) (ty a : ℕ) (l : Limit) →
    AreNoted p at limits →
    ((n : ℕ) (x : Limit) → slice_get limits n ≡ Some x → slice_get more n ≡ Some x) →
    slice_get more a ≡ Some l →
    IsLimitOf p ty l →
    AreNoted p (slice_set at ty (Some a)) more
are_set p at limits more ty a l n keep e f = record {
  long = set_long at ty (Some a) ∙ n.long;
  each = λ i b g. elim (set_either at ty i (Some a) (Some b) g) [
    | inl h ↦ (let q = some_same b a h.1 in
        (l, ap (slice_get more) q ∙ e, subst (λ j. IsLimitOf p j l) (sym h.0) f))
    | inr h ↦ (let m = n.each i b h in (m.0, keep b m.0 m.1, m.2))
  ];
}

push_kept : (limits : List Limit) (l : Limit) (n : ℕ) (x : Limit) → slice_get limits n ≡ Some x → slice_get (limits ++ l ∷ []) n ≡ Some x
push_kept [] l n x e = absurd cc
push_kept (y ∷ limits) l zero x e = e
push_kept (y ∷ limits) l (suc n) x e = push_kept limits l n x e

push_last : (limits : List Limit) (l : Limit) → slice_get (limits ++ l ∷ []) (length limits) ≡ Some l
push_last [] l = refl
push_last (y ∷ limits) l = push_last limits l

pub are_pushed : (p : Program) (at : List (Option ℕ)) (limits more : List Limit) (ty : ℕ) (l : Limit) →
    AreNoted p at limits →
    more ≡ limits ++ l ∷ [] →
    IsLimitOf p ty l →
    AreNoted p (slice_set at ty (Some (length limits))) more
are_pushed p at limits more ty l n e f =
    subst (AreNoted p (slice_set at ty (Some (length limits)))) (sym e)
    (are_set p at limits (limits ++ l ∷ []) ty (length limits) l n (push_kept limits l) (push_last limits l) f)

-- the limit that is noted
pub noted_is : (p : Program) (at : List (Option ℕ)) (limits : List Limit) (i : ℕ) →
    AreNoted p at limits →
    IsNoted at i →
    (l : Limit) × (limit_noted at limits i ≡ Some l) × IsLimitOf p i l
noted_is p at limits i n k =
    let m = n.each i k.0 k.1 in
    (m.0, ap (noted_in limits) k.1 ∙ m.1, m.2)

less_or : (a b : ℕ) → (a < b) ⊎ (b ≤ a)
less_or a zero = inr (omega arith)
less_or zero (suc b) = inl (omega arith)
less_or (suc a) (suc b) =
    elim (less_or a b) [
      | inl h ↦ inl (omega (arith, h))
      | inr h ↦ inr (omega (arith, h))
    ]

pub le_or_next : (m long : ℕ) → long ≤ m + 1 → (long ≤ m) ⊎ (m + 1 ≡ long)
le_or_next m zero h = inl (omega arith)
le_or_next zero (suc long) h = inr (omega (arith, h))
le_or_next (suc m) (suc long) h =
    elim (le_or_next m long (omega (arith, h))) [
      | inl e ↦ inl (omega (arith, e))
      | inr e ↦ inr (omega (arith, e))
    ]

pub number_is : (at : List (Option ℕ)) (i : ℕ) (n : IsNoted at i) → number_noted at i ≡ Some n.0
number_is at i n = ap number_in n.1

pub noted_by : (at : List (Option ℕ)) (i : ℕ) (o : Option ℕ) → slice_get at i ≡ Some o → is_some o ≡ true → IsNoted at i
noted_by at i None e h = absurd cc
noted_by at i (Some a) e h = (a, e)

pub empty_list : {A : Type 0} (xs : List A) → length xs ≡ 0 → xs ≡ []
empty_list [] e = refl
empty_list (x ∷ xs) e = absurd (omega (arith, e))

-- the types of a trail, the last ones of which are noted
pub trail_noted : (ts : List Type') (old at : List (Option ℕ)) (start step i j : ℕ) (v : List ℕ) →
    IsTrail ts old start v →
    ((i : ℕ) → IsNoted old i → IsNoted at i) →
    ((n i : ℕ) → slice_get v n ≡ Some i → length v ≤ n + step → IsNoted at i) →
    step < length v →
    slice_get v (length v - 1 - step) ≡ Some i →
    next ts i ≡ Some j →
    IsNoted at j
trail_noted ts old at start step i j v t kept done l e f =
    elim (t.follows (length v - 1 - step) i j e f) [
      | inl h ↦ kept j h
      | inr h ↦ done (length v - 1 - step + 1) j h (omega (arith, l))
    ]

pub trail_done : (at new : List (Option ℕ)) (step ty : ℕ) (v : List ℕ) →
    ((i : ℕ) → IsNoted at i → IsNoted new i) →
    ((n i : ℕ) → slice_get v n ≡ Some i → length v ≤ n + step → IsNoted at i) →
    step < length v →
    slice_get v (length v - 1 - step) ≡ Some ty →
    IsNoted new ty →
    (n i : ℕ) → slice_get v n ≡ Some i → length v ≤ n + (step + 1) → IsNoted new i
trail_done at new step ty v kept done l e it n i f h =
    elim (le_or_next (n + step) (length v) (omega (arith, h))) [
      | inl g ↦ kept i (done n i f g)
      | inr g ↦ (let q : n ≡ length v - 1 - step = omega (arith, g) in
          let s = some_same i ty (sym f ∙ ap (slice_get v) q ∙ e) in
          subst (IsNoted new) (sym s) it)
    ]

pub below_next : (at new : List (Option ℕ)) (ty : ℕ) →
    ((i : ℕ) → IsNoted at i → IsNoted new i) →
    ((i : ℕ) → i < ty → IsNoted at i) →
    IsNoted new ty →
    (i : ℕ) → i < ty + 1 → IsNoted new i
below_next at new ty kept done it i l =
    elim (less_or i ty) [
      | inl g ↦ kept i (done i g)
      | inr g ↦ (let q : ty ≡ i = omega (arith, g, l) in subst (IsNoted new) q it)
    ]

pub all_members : {A : Type 0} (P : A → Type 0) (xs : List A) (x : A) → AllByRecursion P xs → IsMember x xs → P x
all_members P [] x a m = elim m [ ]
all_members P (y ∷ xs) x a is_first = a.0
all_members P (y ∷ xs) x a (is_later m) = all_members P xs x a.1 m
