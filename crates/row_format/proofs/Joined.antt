-- Lists that are joined by a piece.
use Rattle.std.proofs.Common.{◌≡◌, ◌++◌, List, [], ◌∷◌, map, refl, sym, ap}
use Rattle.std.specs.List.{join_by}
use Rattle.std.proofs.lemmas.List.Folds.{flat_map-map}

-- to join what a function gives for each element is to join the list of what it gives
pub join_by_map : {X A : Type 0} (f : X → List A) (piece : List A) (xs : List X)
    → join_by f piece xs ≡ join_by (λ l. l) piece (map f xs)
join_by_map f piece [] = refl
join_by_map f piece (x ∷ xs) = ap (λ l. f x ++ l) (sym (flat_map-map (λ l. piece ++ l) f xs))
