-- Sets of numbers: ranges in ascending order, none of which touches another (X.680, 50 and 51).
use Rattle.std.specs.Prelude.{◌≡◌, ◌⊎◌, ℤ, true, false, List, Some, None}
pub use Rattle.asn_base.specs.Trees.{HoldsSome, EndsBefore, AreApart}
use Rattle.asn_base.specs.Types.{Range, Constraint}
use Rattle.asn_base.specs.Typed.{IsInSome}
use Rattle.asn_base.specs.Schemas.{IsSize}

-- each number in the ranges may be a size
abbrev pub AreSizes : List Range → Type 0
AreSizes rs = (z : ℤ) → IsInSome z rs → IsSize z

-- these ranges are the root of the constraint: without a marker only they are allowed, with a marker everything is
abbrev pub HasRoot : Constraint → List Range → Type 0
HasRoot c rs =
    ((c.visible.extensible ≡ false) × (c.allowed ≡ Some rs)) ⊎ ((c.visible.extensible ≡ true) × (c.allowed ≡ None))
