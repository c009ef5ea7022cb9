-- The edges of a set of ranges: between two neighbouring edges all numbers are in the set, or none.
use Rattle.std.specs.Prelude.{◌≡◌, ◌⊎◌, ℤ, pos, ◌+ℤ◌, List, [], ◌∷◌, Some, None}
use Rattle.asn_base.specs.Types.{Range}

-- z is the number after g
abbrev pub IsAfter : ℤ → ℤ → Type 0
IsAfter g z = z ≡ (g +ℤ pos 1)

-- the range begins at the number, or ends just before it
abbrev pub IsEdge : Range → ℤ → Type 0
IsEdge r z = (r.least ≡ Some z) ⊎ ((g : ℤ) × (r.greatest ≡ Some g) × IsAfter g z)

abbrev pub IsEdgeOfSome : List Range → ℤ → Type 0
IsEdgeOfSome [] z = ⊥
IsEdgeOfSome (r ∷ rs) z = IsEdge r z ⊎ IsEdgeOfSome rs z

-- one of the ranges has no lower end
abbrev pub HasNoBeginning : List Range → Type 0
HasNoBeginning [] = ⊥
HasNoBeginning (r ∷ rs) = (r.least ≡ None) ⊎ HasNoBeginning rs
