-- What is made of a name.
use Rattle.std.specs.Prelude.{◌≡◌, ◌↔◌, ℕ, suc, ℤ, Bool, true, List, length, map, Some, slice_get}
use Rattle.asn_base.specs.Abstract.{AbstractValue, alternative, enumerated, bits}
use Rattle.asn_base.specs.Types.{Alternative, Item, NamedBit, Resolved}
use Rattle.value_builders.specs.Named.{Has, alternatives_in, items_in, bits_in, place_of, number_of, bit_of}
use Rattle.value_builders.specs.Named.{alternative_names}

-- w is v as the alternative with this name of type t, a CHOICE (X.680, clause 29)
pub record IsAlternative (s : List Resolved) (t : ℕ) (name : List ℕ) (v w : AbstractValue) : Type 0 where
  pub alternatives : List Alternative
  pub of : Has alternatives_in s t alternatives
  pub place : ℕ
  pub named : place_of (alternative_names alternatives) name ≡ Some place
  pub is : w ≡ alternative place v

-- v is the item with this name of type t, an ENUMERATED (X.680, clause 20)
pub record IsItem (s : List Resolved) (t : ℕ) (name : List ℕ) (v : AbstractValue) : Type 0 where
  pub items : List Item
  pub of : Has items_in s t items
  pub number : ℤ
  pub named : number_of items name ≡ Some number
  pub is : v ≡ enumerated number

-- x is one of the numbers
pub record IsAmong (numbers : List ℕ) (x : ℕ) : Type 0 where
  pub place : ℕ
  pub there : slice_get numbers place ≡ Some x

-- the places in the string of the bits with these names, one for each
pub record AreBitPlaces (bs : List NamedBit) (names : List (List ℕ)) (places : List ℕ) : Type 0 where
  pub found : map (bit_of bs) names ≡ map Some places

-- in the bits s exactly those at these places are set, and the last bit is one of them
pub record AreSetBits (places : List ℕ) (s : List Bool) : Type 0 where
  pub set : (i : ℕ) → (slice_get s i ≡ Some true ↔ IsAmong places i)
  pub greatest : (n : ℕ) → length s ≡ suc n → IsAmong places n

-- v is a value of type t, a BIT STRING with named bits, in which those with these names are set (X.680, clause 22)
pub record IsBits (s : List Resolved) (t : ℕ) (names : List (List ℕ)) (v : AbstractValue) : Type 0 where
  pub named : List NamedBit
  pub of : Has bits_in s t named
  pub places : List ℕ
  pub are : AreBitPlaces named names places
  pub set : List Bool
  pub only : AreSetBits places set
  pub is : v ≡ bits set
