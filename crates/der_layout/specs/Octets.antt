-- The order of encodings, octet by octet, where the shorter one is filled with zeros (X.690, 11.6).
use Rattle.std.specs.Prelude.{ℕ, List, [], ◌∷◌, nat_lt, if◌then◌else◌}
use Rattle.std.specs.declared.cmp.Ordering.{Ordering}
use Rattle.std.specs.declared.cmp.Ordering.TheVariants.{Less, Equal, Greater}

-- the order of two first octets, or order o of the octets after them if they are equal
abbrev pub first_differs : ℕ → ℕ → Ordering → Ordering
first_differs x y o = if nat_lt x y then Less else (if nat_lt y x then Greater else o)

abbrev pub order : List ℕ → List ℕ → Ordering
order [] [] = Equal
order [] (y ∷ ys) = first_differs 0 y (order [] ys)
order (x ∷ xs) [] = first_differs x 0 (order xs [])
order (x ∷ xs) (y ∷ ys) = first_differs x y (order xs ys)
