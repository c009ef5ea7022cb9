-- The values whose notations are being read: in memory the latest is the last.
use Rattle.std.proofs.Common.{◌≡◌, ℕ, zero, suc, ◌||◌, Bool, true, false, List, [], ◌∷◌, ◌++◌, length, take, Some, refl, sym, ap, ◌∙◌, arith, eqb, inl, inr}
use Rattle.std.specs.Prelude.{slice_get, reverse, if◌then◌else◌}
use Rattle.std.specs.List.{list_any}
use Rattle.std.proofs.lemmas.Bool.{eqb-true, eq-eqb, or_cases, cases_Bool}
use Rattle.std.proofs.lemmas.List.{reverse-append, reverse-reverse, length-reverse, take_at}
use Rattle.std.proofs.lemmas.List.Sorted.{IsPermutation-reverse, list_any-IsPermutation}
use Rattle.std.proofs.lemmas.Option.{same_Some}
use Rattle.indexmap.specs.IndexSet.{insert_key}
use Rattle.names.specs.Modules.{OccursIn}

pub counted : (ns : List ℕ) → length ns ≡ length (reverse ns)
counted ns = sym (length-reverse ns)

pub closed : (ns xs os : List ℕ) (c : ℕ) → reverse ns ≡ xs ++ os → length os ≡ c → reverse (take c ns) ≡ os
closed ns xs os c e l =
    let f : ns ≡ reverse os ++ reverse xs = sym (reverse-reverse ns) ∙ ap reverse e ∙ reverse-append xs os in
    ap (λ z. reverse (take c z)) f ∙ ap reverse (take_at (reverse os) (reverse xs) c (length-reverse os ∙ l))
    ∙ reverse-reverse os

pub opened_more : (ns : List ℕ) (x : ℕ) → reverse (ns ++ x ∷ []) ≡ x ∷ reverse ns
opened_more ns x = reverse-append ns (x ∷ [])

any_occurs : (xs : List ℕ) (x : ℕ) → list_any (eqb x) xs ≡ true → OccursIn xs x
any_occurs [] x e = absurd cc
any_occurs (y ∷ xs) x e =
    elim (or_cases (eqb x y) (list_any (eqb x) xs) e) [
      | inl h ↦ (0, ap Some (sym (eqb-true x y h)))
      | inr h ↦ (let s = any_occurs xs x h in (suc s.0, s.1))
    ]

same_any : (x : ℕ) (b : Bool) → (eqb x x || b) ≡ true
same_any x b = rw (eq-eqb x x refl) refl

occurs_any : (xs : List ℕ) (x i : ℕ) → slice_get xs i ≡ Some x → list_any (eqb x) xs ≡ true
occurs_any [] x i e = absurd cc
occurs_any (y ∷ xs) x zero e = let q : y ≡ x = same_Some y x e in rw q (same_any x (list_any (eqb x) xs))
occurs_any (y ∷ xs) x (suc i) e = rw (occurs_any xs x i e) (or_true (eqb x y))
  where
    or_true : (b : Bool) → (b || true) ≡ true
    or_true true = refl
    or_true false = refl

any_reversed : (xs : List ℕ) (x : ℕ) → list_any (eqb x) xs ≡ list_any (eqb x) (reverse xs)
any_reversed xs x = list_any-IsPermutation (eqb x) xs (reverse xs) (IsPermutation-reverse xs)

pub held : (xs : List ℕ) (x : ℕ) → list_any (eqb x) xs ≡ true → OccursIn (reverse xs) x
held xs x e = any_occurs (reverse xs) x (sym (any_reversed xs x) ∙ e)

pub not_held : (xs : List ℕ) (x : ℕ) → list_any (eqb x) xs ≡ false → OccursIn (reverse xs) x → ⊥
not_held xs x e s =
    let t : true ≡ false = sym (occurs_any (reverse xs) x s.0 s.1) ∙ sym (any_reversed xs x) ∙ e in
    absurd cc

-- a number that isn't there yet becomes the last one in memory
pub opened_one : (xs new : List ℕ) (x : ℕ) → (OccursIn (reverse xs) x → ⊥) → new ≡ insert_key eqb xs x
    → reverse new ≡ x ∷ reverse xs
opened_one xs new x fresh e =
    elim (cases_Bool (list_any (eqb x) xs)) [
      | inl h ↦ absurd (fresh (held xs x h))
      | inr h ↦ ap reverse (e ∙ added (list_any (eqb x) xs) h) ∙ opened_more xs x
    ]
  where
    added : (b : Bool) → b ≡ false → (if b then xs else xs ++ x ∷ []) ≡ xs ++ x ∷ []
    added true f = absurd cc
    added false f = refl

-- the latest is the last one in memory
last_of : (ns : List ℕ) (x j : ℕ) → length ns ≡ suc j → slice_get ns j ≡ Some x → ns ≡ take j ns ++ x ∷ []
last_of [] x j l e = absurd (omega (arith, l))
last_of (n ∷ []) x zero l e = ap (λ z. z ∷ []) (same_Some n x e)
last_of (n ∷ m ∷ ns) x zero l e = absurd (omega (arith, l))
last_of (n ∷ ns) x (suc j) l e = ap (λ z. n ∷ z) (last_of ns x j (omega (arith, l)) e)

pub one_closed : (ns : List ℕ) (x j : ℕ) → length ns ≡ suc j → slice_get ns j ≡ Some x →
    reverse ns ≡ x ∷ reverse (take j ns)
one_closed ns x j l e = ap reverse (last_of ns x j l e) ∙ opened_more (take j ns) x

pub none_closed : (ns : List ℕ) → length ns ≡ 0 → reverse ns ≡ []
none_closed [] e = refl
none_closed (n ∷ ns) e = absurd (omega (arith, e))

-- what is among the values is in memory
pub turned : (ns : List ℕ) (x : ℕ) → OccursIn (reverse ns) x → OccursIn ns x
turned ns x s = any_occurs ns x (any_reversed ns x ∙ occurs_any (reverse ns) x s.0 s.1)
