-- A list of copies, one by one.
use Rattle.std.proofs.Common.{arith, ◌≡◌, ℕ, zero, suc, ◌+◌, ◌<◌, ◌≤◌, List, [], ◌∷◌, ◌++◌, length, map, take, get_or, refl, sym, ap, ◌∙◌}
use Rattle.std.proofs.lemmas.List.{take_more, get_or-map}
use Rattle.asn_base.specs.proving.Lists.{length_mapped}

map_append : {A B : Type 0} (f : A → B) (xs ys : List A) → map f (xs ++ ys) ≡ map f xs ++ map f ys
map_append f [] ys = refl
map_append f (x ∷ xs) ys = ap (λ q. f x ∷ q) (map_append f xs ys)

take_all : {A : Type 0} (xs : List A) (i : ℕ) → length xs ≤ i → take i xs ≡ xs
take_all [] zero h = refl
take_all [] (suc i) h = refl
take_all (x ∷ xs) zero h = absurd (omega arith)
take_all (x ∷ xs) (suc i) h = ap (λ q. x ∷ q) (take_all xs i (omega arith))

-- one more copy, of the element at i
pub copied_more : {A B : Type 0} (f : A → B) (xs ys zs : List A) (i : ℕ) (x y : A) → i < length xs → x ≡ get_or xs i x → map f ys ≡ take i (map f xs) → f y ≡ f x → zs ≡ ys ++ y ∷ [] → map f zs ≡ take (i + 1) (map f xs)
copied_more f xs ys zs i x y l is so_far same more =
    let many = length_mapped f xs in
    ap (map f) more
    ∙ map_append f ys (y ∷ [])
    ∙ ap (λ q. q ++ f y ∷ []) so_far
    ∙ ap (λ q. take i (map f xs) ++ q ∷ []) (same ∙ ap f is ∙ sym (get_or-map f xs i x (f x) l))
    ∙ sym (take_more (map f xs) i (f x) (omega (arith, many)))

pub copied_all : {A B : Type 0} (f : A → B) (xs ys : List A) (i : ℕ) → length xs ≤ i → map f ys ≡ take i (map f xs) → map f ys ≡ map f xs
copied_all f xs ys i l so_far = let many = length_mapped f xs in so_far ∙ take_all (map f xs) i (omega (arith, many))
