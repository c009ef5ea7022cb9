-- Why nothing is made of a name. Each reason excludes the others and what is made.
use Rattle.std.specs.Prelude.{◌≡◌, ℕ, List, take, Some, None, slice_get, string_bytes}
use Rattle.asn_base.specs.Abstract.{AbstractValue}
use Rattle.asn_base.specs.Types.{Alternative, Item, NamedBit, Resolved}
use Rattle.value_builders.specs.declared.build_fault.BuildFault.{BuildFault}
use Rattle.value_builders.specs.declared.build_fault.BuildFault.TheVariants as fault
use Rattle.value_builders.specs.Named.{Has, IsOther, kind_at, components_in, alternatives_in, items_in, bits_in}
use Rattle.value_builders.specs.Named.{place_of}
use Rattle.value_builders.specs.Named.{number_of, bit_of, component_names, alternative_names}
use Rattle.value_builders.specs.Building.{Building, missing}
use Rattle.value_builders.specs.Made.{AreBitPlaces}

-- why no SEQUENCE or SET is begun
abbrev pub IsNotBegun : List Resolved → ℕ → BuildFault → Type 0
IsNotBegun s t fault.Memory = Unit {0}
IsNotBegun s t fault.NoType = kind_at s t ≡ None
IsNotBegun s t fault.NotFields = IsOther components_in s t
IsNotBegun s t _ = ⊥

-- why a component is not set: no component has the name, or the one that has it was set before
abbrev pub IsNotSet : Building → List ℕ → BuildFault → Type 0
IsNotSet b name fault.Memory = Unit {0}
IsNotSet b name (fault.NoComponent n) =
    (string_bytes n ≡ name) × (place_of (component_names b.components) name ≡ None)
IsNotSet b name (fault.Twice n) =
    (string_bytes n ≡ name)
    × ((i : ℕ) × (v : AbstractValue)
    × (place_of (component_names b.components) name ≡ Some i) × (slice_get b.values i ≡ Some (Some v)))
IsNotSet b name _ = ⊥

-- why a value is not finished: the first component that must be there is missing
abbrev pub IsUnfinished : Building → BuildFault → Type 0
IsUnfinished b fault.Memory = Unit {0}
IsUnfinished b (fault.Missing n) = missing b.components b.values ≡ Some (string_bytes n)
IsUnfinished b _ = ⊥

-- why no alternative is made
abbrev pub IsNoAlternative : List Resolved → ℕ → List ℕ → BuildFault → Type 0
IsNoAlternative s t name fault.Memory = Unit {0}
IsNoAlternative s t name fault.NoType = kind_at s t ≡ None
IsNoAlternative s t name fault.NotChoice = IsOther alternatives_in s t
IsNoAlternative s t name (fault.NoAlternative n) =
    (string_bytes n ≡ name)
    × ((as' : List Alternative) × Has alternatives_in s t as' × (place_of (alternative_names as') name ≡ None))
IsNoAlternative s t name _ = ⊥

-- why no item is made
abbrev pub IsNoItem : List Resolved → ℕ → List ℕ → BuildFault → Type 0
IsNoItem s t name fault.Memory = Unit {0}
IsNoItem s t name fault.NoType = kind_at s t ≡ None
IsNoItem s t name fault.NotEnumerated = IsOther items_in s t
IsNoItem s t name (fault.NoItem n) =
    (string_bytes n ≡ name) × ((is : List Item) × Has items_in s t is × (number_of is name ≡ None))
IsNoItem s t name _ = ⊥

-- The first of the names that no bit has is the one that the fault has.
pub record IsNoBitName (bs : List NamedBit) (names : List (List ℕ)) (name : List ℕ) : Type 0 where
  pub index : ℕ
  pub there : slice_get names index ≡ Some name
  pub none : bit_of bs name ≡ None
  pub places : List ℕ
  pub before : AreBitPlaces bs (take index names) places

-- why no bits are set
abbrev pub IsNoBitAmong : List NamedBit → List (List ℕ) → BuildFault → Type 0
IsNoBitAmong bs names fault.Memory = Unit {0}
IsNoBitAmong bs names (fault.NoBit n) = IsNoBitName bs names (string_bytes n)
IsNoBitAmong bs names _ = ⊥

-- why no value of a BIT STRING with named bits is made
abbrev pub IsNoBits : List Resolved → ℕ → List (List ℕ) → BuildFault → Type 0
IsNoBits s t names fault.Memory = Unit {0}
IsNoBits s t names fault.NoType = kind_at s t ≡ None
IsNoBits s t names fault.NotNamedBits = IsOther bits_in s t
IsNoBits s t names (fault.NoBit n) =
    (bs : List NamedBit) × Has bits_in s t bs × IsNoBitName bs names (string_bytes n)
IsNoBits s t names _ = ⊥
