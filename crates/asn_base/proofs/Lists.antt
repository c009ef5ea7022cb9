-- What holds of each member of a list holds of the one at a place.
use Rattle.std.proofs.Common.{◌≡◌, ℕ, zero, suc, List, [], ◌∷◌, ◌++◌, ap, subst}
use Rattle.std.specs.Prelude.{Option, Some, None, slice_get, IsSomeAnd}
use Rattle.std.specs.List.{AllByRecursion}

abbrev pub or_else : {A : Type 0} → A → Option A → A
or_else x None = x
or_else x (Some y) = y

abbrev IsNone' : {A : Type 0} → Option A → Type 0
IsNone' None = Unit {0}
IsNone' (Some x) = ⊥

pub at_place : {A : Type 0} (P : A → Type 0) (xs : List A) (i : ℕ) (x : A) → slice_get xs i ≡ Some x → AllByRecursion P xs → P x
at_place P [] i x e a = absurd (subst IsNone' e tt)
at_place P (y ∷ xs) zero x e a = subst P (ap (or_else y) e) a.0
at_place P (y ∷ xs) (suc i) x e a = at_place P xs i x e a.1

pub all_mapped : {A : Type 0} (P Q : A → Type 0) → ((x : A) → P x → Q x) → (xs : List A) → AllByRecursion P xs → AllByRecursion Q xs
all_mapped P Q f [] a = tt
all_mapped P Q f (x ∷ xs) a = (f x a.0, all_mapped P Q f xs a.1)

pub all_append : {A : Type 0} (P : A → Type 0) (xs : List A) (y : A) → AllByRecursion P xs → P y → AllByRecursion P (xs ++ (y ∷ []))
all_append P [] y a b = (b, tt)
all_append P (x ∷ xs) y a b = (a.0, all_append P xs y a.1 b)

-- what is found in a list is found in a longer one
pub found_still : {A : Type 0} (P : A → Type 0) (xs : List A) (y : A) (i : ℕ) → IsSomeAnd (slice_get xs i) P → IsSomeAnd (slice_get (xs ++ (y ∷ [])) i) P
found_still P [] y i h = absurd h
found_still P (x ∷ xs) y zero h = h
found_still P (x ∷ xs) y (suc i) h = found_still P xs y i h
