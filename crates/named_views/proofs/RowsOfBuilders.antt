-- What is made of names, and why nothing is, field by field and in full. A definition of value_builders that lost a
-- field would fail one of these rows.
use Rattle.std.proofs.Common.{◌≡◌, ℕ, suc, true, List, length, map, take, Some, None}
use Rattle.std.specs.Prelude.{◌↔◌, String, slice_get, string_bytes}
use Rattle.std.specs.Global.{Global}
use Rattle.asn_base.specs.Abstract.{AbstractValue, bits}
use Rattle.asn_base.specs.Types.{Alternative, Item, NamedBit, Resolved}
use Rattle.value_builders.specs.declared.build_fault.BuildFault.TheVariants as fault
use Rattle.value_builders.specs.Building.{Building, missing}
use Rattle.value_builders.specs.Made.{IsAmong, IsBits}
use Rattle.value_builders.specs.Named.{Has, alternative_names, alternatives_in, bit_of, bits_in, component_names}
use Rattle.value_builders.specs.Named.{items_in, number_of, place_of}
use Rattle.value_builders.specs.Refused.{IsNoAlternative, IsNoBitAmong, IsNoBitName, IsNoBits, IsNoItem, IsNotSet}
use Rattle.value_builders.specs.Refused.{IsUnfinished}

-- ---- bits

module _ (s : List Resolved) (t : ℕ) (names : List (List ℕ)) (v : AbstractValue) (h : IsBits s t names v) where
  bits_made : v ≡ bits h.set
  bits_made = h.is

  bits_named : Has bits_in s t h.named × (map (bit_of h.named) names ≡ map Some h.places)
  bits_named = (h.of, h.are.found)

  bits_set : (i : ℕ) → (slice_get h.set i ≡ Some true ↔ IsAmong h.places i)
  bits_set = h.only.set

  last_bit : (n : ℕ) → length h.set ≡ suc n → IsAmong h.places n
  last_bit = h.only.greatest

module _ (bs : List NamedBit) (names : List (List ℕ)) (name : List ℕ) (h : IsNoBitName bs names name) where
  no_bit_there : (slice_get names h.index ≡ Some name) × (bit_of bs name ≡ None)
  no_bit_there = (h.there, h.none)

  bits_before : map (bit_of bs) (take h.index names) ≡ map Some h.places
  bits_before = h.before.found

module _ (n : String Global) where
  no_bit_among : (bs : List NamedBit) (names : List (List ℕ))
      → IsNoBitAmong bs names (fault.NoBit n)
      → IsNoBitName bs names (string_bytes n)
  no_bit_among bs names h = h

  no_bits : (s : List Resolved) (t : ℕ) (names : List (List ℕ))
      → IsNoBits s t names (fault.NoBit n)
      → (bs : List NamedBit) × Has bits_in s t bs × IsNoBitName bs names (string_bytes n)
  no_bits s t names h = h

  -- ---- components

  no_component : (b : Building) (name : List ℕ)
      → IsNotSet b name (fault.NoComponent n)
      → (string_bytes n ≡ name) × (place_of (component_names b.components) name ≡ None)
  no_component b name h = h

  set_before : (b : Building) (name : List ℕ)
      → IsNotSet b name (fault.Twice n)
      → (string_bytes n ≡ name)
      × ((i : ℕ) × (v : AbstractValue)
      × (place_of (component_names b.components) name ≡ Some i) × (slice_get b.values i ≡ Some (Some v)))
  set_before b name h = h

  still_missing : (b : Building)
      → IsUnfinished b (fault.Missing n)
      → missing b.components b.values ≡ Some (string_bytes n)
  still_missing b h = h

  -- ---- alternatives and items

  no_alternative : (s : List Resolved) (t : ℕ) (name : List ℕ)
      → IsNoAlternative s t name (fault.NoAlternative n)
      → (string_bytes n ≡ name)
      × ((xs : List Alternative) × Has alternatives_in s t xs × (place_of (alternative_names xs) name ≡ None))
  no_alternative s t name h = h

  no_item : (s : List Resolved) (t : ℕ) (name : List ℕ)
      → IsNoItem s t name (fault.NoItem n)
      → (string_bytes n ≡ name) × ((xs : List Item) × Has items_in s t xs × (number_of xs name ≡ None))
  no_item s t name h = h
