-- Members of lists and their places.
use Rattle.std.proofs.Common.{inl, inr, ◌≡◌, ℕ, ◌<◌, arith, sym, ap, ◌∙◌, Some, None}
use Rattle.std.specs.Prelude.{◌⊎◌, List, map, Option, slice_get, option_map}
use Rattle.std.proofs.lemmas.Option.{same_Some, none-some, slice_get-map}
use Rattle.names.specs.Modules.{OccursIn, AreDifferent}

pub one_some : {A : Type 0} (o : Option A) (x y : A) → o ≡ Some x → o ≡ Some y → x ≡ y
one_some o x y e f = same_Some x y (sym e ∙ f)

pub some_none : {A : Type 0} (o : Option A) (x : A) → o ≡ Some x → o ≡ None → ⊥
some_none o x e f = none-some x (sym f ∙ e)

pub less_or_more : (i j : ℕ) → (i ≡ j) ⊎ ((i < j) ⊎ (j < i))
less_or_more i j = grind arith

-- two places of distinct members with the same element are the same
pub one_place : {A : Type 0} (xs : List A) (x : A) (i j : ℕ)
    → AreDifferent xs
    → slice_get xs i ≡ Some x
    → slice_get xs j ≡ Some x
    → i ≡ j
one_place xs x i j d e f =
    elim (less_or_more i j) [
      | inl h ↦ h
      | inr h ↦ elim h [
        | inl l ↦ absurd (d x (record { first = i; second = j; apart = l; here = e; there = f }))
        | inr l ↦ absurd (d x (record { first = j; second = i; apart = l; here = f; there = e }))
      ]
    ]

pub mapped_at : {A B : Type 0} (f : A → B) (xs : List A) (i : ℕ) (x : A)
    → slice_get xs i ≡ Some x
    → slice_get (map f xs) i ≡ Some (f x)
mapped_at f xs i x e = slice_get-map f xs i ∙ ap (option_map f) e

pub occurs_mapped : {A B : Type 0} (f : A → B) (xs : List A) (x : A) → OccursIn xs x → OccursIn (map f xs) (f x)
occurs_mapped f xs x s = (s.0, mapped_at f xs s.0 x s.1)
