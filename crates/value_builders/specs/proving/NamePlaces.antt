-- The place of a name is one of the list.
use Rattle.std.proofs.Common.{arith, ◌≡◌, ℕ, suc, ◌<◌, Bool, true, false, List, [], ◌∷◌, Option, Some, None, refl, length, cond}
use Rattle.std.specs.Prelude.{option_map}
use Rattle.value_builders.specs.Named.{place_of}

below_by : (b : Bool) (o : Option ℕ) (i n : ℕ)
    → ((j : ℕ) → o ≡ Some j → j < n)
    → cond b (Some 0) (option_map suc o) ≡ Some i
    → i < suc n
below_by true o i n f e = let g : 0 ≡ i = cc in omega (arith, g)
below_by false None i n f e = absurd cc
below_by false (Some j) i n f e = let g : suc j ≡ i = cc in let h = f j refl in omega (arith, g, h)

pub place_below : (names : List (List ℕ)) (n : List ℕ) (i : ℕ) → place_of names n ≡ Some i → i < length names
place_below [] n i e = absurd cc
place_below (m ∷ names) n i e = below_by _ (place_of names n) i (length names) (place_below names n) e
