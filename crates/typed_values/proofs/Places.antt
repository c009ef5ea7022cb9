-- Members of lists and their places.
use Rattle.std.proofs.Common.{zero, suc, refl}
use Rattle.std.specs.Prelude.{List, [], ◌∷◌, ◌++◌}
use Rattle.names.specs.Modules.{OccursIn}

-- an element between two lists is in the whole
pub middle : {A : Type 0} (xs : List A) (x : A) (ys : List A) → OccursIn (xs ++ x ∷ ys) x
middle [] x ys = (zero, refl)
middle (z ∷ xs) x ys = let m = middle xs x ys in (suc m.0, m.1)
