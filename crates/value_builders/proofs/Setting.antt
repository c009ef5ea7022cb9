-- Components that are set, and the first one that is missing.
use Rattle.std.proofs.Common.{arith, ◌≡◌, ℕ, zero, suc, ◌+◌, ◌<◌, ◌≤◌, true, false, List, [], ◌∷◌, ◌++◌, Option, Some, None, refl, sym, ap, ◌∙◌, length, map, drop, get_or, cond}
use Rattle.std.specs.Prelude.{replicate, slice_set}
use Rattle.asn_base.specs.Abstract.{AbstractValue}
use Rattle.asn_base.specs.Types.{Component}
use Rattle.asn_base.specs.declared.schema.Component.{Component as Component'}
use Rattle.asn_base.specs.Seen.{component_of}
use Rattle.value_builders.specs.Named.{place_of}
use Rattle.value_builders.specs.Building.{is_missing, missing}
use Rattle.asn_base.specs.proving.Lists.{length_mapped}
use Rattle.value_builders.specs.proving.NamePlaces.{place_below}

pub mapped_more : {A B : Type 0} (f : A → B) (xs : List A) (x : A) → map f (xs ++ x ∷ []) ≡ map f xs ++ f x ∷ []
mapped_more f [] x = refl
mapped_more f (y ∷ xs) x = ap (λ q. f y ∷ q) (mapped_more f xs x)

pub replicate_more : {A : Type 0} (n : ℕ) (x : A) → replicate n x ++ x ∷ [] ≡ replicate (n + 1) x
replicate_more zero x = refl
replicate_more (suc n) x =
    let q : suc n + 1 ≡ suc (n + 1) = omega arith in
    rw q (ap (λ z. x ∷ z) (replicate_more n x))

pub length_more : {A : Type 0} (xs : List A) (x : A) → length (xs ++ x ∷ []) ≡ length xs + 1
length_more [] x = refl
length_more (y ∷ xs) x = let e = length_more xs x in omega (arith, e)

pub mapped_set : {A B : Type 0} (f : A → B) (xs : List A) (i : ℕ) (x : A) → map f (slice_set xs i x) ≡ slice_set (map f xs) i (f x)
mapped_set f [] i x = refl
mapped_set f (y ∷ xs) zero x = refl
mapped_set f (y ∷ xs) (suc i) x = ap (λ q. f y ∷ q) (mapped_set f xs i x)

pub set_length : {A : Type 0} (xs : List A) (i : ℕ) (x : A) → length (slice_set xs i x) ≡ length xs
set_length [] i x = refl
set_length (y ∷ xs) zero x = refl
set_length (y ∷ xs) (suc i) x = ap suc (set_length xs i x)

-- ---- from a place on

pub drop_at : {A B : Type 0} (f : A → B) (xs : List A) (i : ℕ) (d : A) → i < length xs → d ≡ get_or xs i d → drop i (map f xs) ≡ f d ∷ drop (i + 1) (map f xs)
drop_at f [] i d h e = absurd (omega (arith, h))
drop_at f (x ∷ xs) zero d h e = ap (λ q. f q ∷ map f xs) (sym e)
drop_at f (x ∷ xs) (suc i) d h e =
    let q : suc (i + 1) ≡ suc i + 1 = omega arith in
    drop_at f xs i d (omega (arith, h)) e ∙ ap (λ k. f d ∷ drop k (f x ∷ map f xs)) q

pub drop_past : {A B : Type 0} (f : A → B) (xs : List A) (i : ℕ) → length xs ≤ i → drop i (map f xs) ≡ []
drop_past f [] zero h = refl
drop_past f [] (suc i) h = refl
drop_past f (x ∷ xs) zero h = absurd (omega (arith, h))
drop_past f (x ∷ xs) (suc i) h = drop_past f xs i (omega (arith, h))

-- what is missing of the whole is what is missing from a place on
abbrev pub MissingFrom : List Component → List (Option AbstractValue) → ℕ → Type 0
MissingFrom cs vs i = missing cs vs ≡ missing (drop i cs) (drop i vs)

module _ (cs : List Component) (vs : List (Option AbstractValue)) (i : ℕ) (c : Component) (v : Option AbstractValue) (a : drop i cs ≡ c ∷ drop (i + 1) cs) (b : drop i vs ≡ v ∷ drop (i + 1) vs) (f : MissingFrom cs vs i) where
  here : missing cs vs ≡ cond (is_missing c v) (Some c.name) (missing (drop (i + 1) cs) (drop (i + 1) vs))
  here = f ∙ (λ k. missing (a k) (b k))

  pub missing_here : is_missing c v ≡ true → missing cs vs ≡ Some c.name
  missing_here e = here ∙ ap (λ q. cond q (Some c.name) (missing (drop (i + 1) cs) (drop (i + 1) vs))) e

  pub missing_later : is_missing c v ≡ false → MissingFrom cs vs (i + 1)
  missing_later e = here ∙ ap (λ q. cond q (Some c.name) (missing (drop (i + 1) cs) (drop (i + 1) vs))) e

pub none_missing : (cs : List Component) (vs : List (Option AbstractValue)) (i : ℕ) → drop i cs ≡ [] → MissingFrom cs vs i → missing cs vs ≡ None
none_missing cs vs i e f = f ∙ ap (λ q. missing q (drop i vs)) e

-- one element, read twice
pub same_read : {A : Type 0} (xs : List A) (i : ℕ) (x y : A) → i < length xs → x ≡ get_or xs i x → y ≡ get_or xs i y → x ≡ y
same_read [] i x y l e f = absurd (omega (arith, l))
same_read (z ∷ xs) zero x y l e f = e ∙ sym f
same_read (z ∷ xs) (suc i) x y l e f = same_read xs i x y (omega (arith, l)) e f

-- the place of a component is one of the values
pub place_in : {A : Type 0} (cs : List Component') (n : List ℕ) (i : ℕ) (vs : List A) → Some i ≡ place_of (map (λ c. c.name) (map component_of cs)) n → length vs ≡ length cs → i < length vs
place_in cs n i vs e l =
    let b = place_below (map (λ c. c.name) (map component_of cs)) n i (sym e) in
    let m = length_mapped (λ (c : Component). c.name) (map component_of cs) in
    let k = length_mapped component_of cs in
    omega (arith, b, m, k, l)
