-- Elements of lists.
use Rattle.std.proofs.Common.{◌≡◌, ℕ, ◌<◌, zero, suc, ◌+◌, List, [], ◌∷◌, ◌++◌, take, arith, Some, length, map, ap, ◌∙◌, refl, option_map, get_or}
use Rattle.std.specs.Prelude.{slice_get}
use Rattle.std.proofs.lemmas.Option.{slice_get-map, slice_get_read}

pub seen_here : {A B : Type 0} (f : A → B) (xs : List A) (i : ℕ) (x : A) →
    i < length xs →
    x ≡ get_or xs i x →
    slice_get (map f xs) i ≡ Some (f x)
seen_here f xs i x l q = slice_get-map f xs i ∙ ap (option_map f) (slice_get_read xs (length xs) i x refl l q)

pub taken_more : {A : Type 0} (xs : List A) (i : ℕ) (x : A) → slice_get xs i ≡ Some x → take (i + 1) xs ≡ take i xs ++ x ∷ []
taken_more [] i x e = absurd cc
taken_more (y ∷ xs) zero x e = let q : y ≡ x = cc in rw q refl
taken_more (y ∷ xs) (suc i) x e = let q : suc i + 1 ≡ suc (i + 1) = omega arith in rw q (ap (λ t. y ∷ t) (taken_more xs i x e))
