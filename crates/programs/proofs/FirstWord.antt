-- A list of words with one word more.
use Rattle.std.proofs.Common.{◌≡◌, ◌∙◌, ap, ℕ, List, [], ◌∷◌, ◌++◌, map}
use Rattle.std.proofs.lemmas.List.{map-append}

-- the first word stays the first
pub one_more : {A : Type 0} (f : A → List ℕ) (first : List ℕ) (words : List A) (word : A) (rest : List (List ℕ))
    → map f words ≡ first ∷ rest
    → (more : List (List ℕ)) × (map f (words ++ word ∷ []) ≡ first ∷ more)
one_more f first words word rest e =
    (rest ++ f word ∷ [], map-append f words (word ∷ []) ∙ ap (λ l. l ++ f word ∷ []) e)
