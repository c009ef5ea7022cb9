-- Bounds of the numbers of ranges, from a floor on.
use Rattle.std.specs.Prelude.{ℤ, ◌≤ℤ◌, List, Option, IfSome}
use Rattle.asn_base.specs.Types.{Range}
use Rattle.asn_base.specs.Typed.{IsInSome}
use Rattle.asn_base.specs.Schemas.{IsLeast, IsGreatest}

-- z is at least the floor, if there is one
abbrev pub From : Option ℤ → ℤ → Type 0
From floor z = IfSome floor (λ f. f ≤ℤ z)

-- z is a number of the root from the floor on; a root without ranges has all numbers
abbrev pub IsInRoot : Option ℤ → Option (List Range) → ℤ → Type 0
IsInRoot floor root z = From floor z × IfSome root (IsInSome z)

abbrev pub AreAllFrom : Option ℤ → List Range → ℤ → Type 0
AreAllFrom floor rs l = (z : ℤ) → From floor z × IsInSome z rs → l ≤ℤ z

abbrev pub AreAllUpTo : Option ℤ → List Range → ℤ → Type 0
AreAllUpTo floor rs g = (z : ℤ) → From floor z × IsInSome z rs → z ≤ℤ g

-- these are the bounds of some root
pub record AreEnds (floor least greatest : Option ℤ) : Type 0 where
  pub root : Option (List Range)
  pub is_least : IsLeast (IsInRoot floor root) least
  pub is_greatest : IsGreatest (IsInRoot floor root) greatest
