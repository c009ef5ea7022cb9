-- The places of items.
use Rattle.std.specs.Prelude.{◌≡◌, ℕ, ℤ, List, Some, slice_get}
use Rattle.asn_base.specs.Types.{Item}

-- the item at this place has this number
abbrev pub IsPlace : List Item → ℤ → ℕ → Type 0
IsPlace is z i = (x : Item) × (slice_get is i ≡ Some x) × (x.number ≡ z)
