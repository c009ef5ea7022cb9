-- Where bits are in a list, by their places in the string.
use Rattle.std.specs.Prelude.{◌≡◌, ℕ, List, Some, slice_get, IsSome}
use Rattle.std.specs.BTreeMap.{BTreeMap, get}
use Rattle.std.specs.Ordering.{nat_cmp}
use Rattle.asn_base.specs.Types.{NamedBit}

-- for a bit's place, the map has the number in the list of a bit with that place
pub record ArePlaced (bs : List NamedBit) (m : BTreeMap ℕ ℕ) : Type 0 where
  pub leads : (p k : ℕ) → get nat_cmp m p ≡ Some k → (b : NamedBit) × (slice_get bs k ≡ Some b) × (b.place ≡ p)
  pub all : (k : ℕ) (b : NamedBit) → slice_get bs k ≡ Some b → IsSome (get nat_cmp m b.place)
