-- The components, alternatives, items and bits of a type by their names (X.680, clause 12.3). The names of one type
-- differ in each schema, so the first part of a name is the only one.
use Rattle.std.specs.Prelude.{◌≡◌, ℕ, suc, ℤ, List, [], ◌∷◌, ◌++◌, map, Option, Some, None, option_map, slice_get}
use Rattle.std.specs.Prelude.{bytes_eq}
use Rattle.std.specs.Prelude.{if◌then◌else◌}
use Rattle.asn_base.specs.Types.{Item, NamedBit, Alternative, Component, Kind, an_enumerated, a_named_bit_string}
use Rattle.asn_base.specs.Types.{a_sequence, a_set, a_choice, Resolved}

-- the kind of type t of schema s, None if there is no such type
abbrev pub kind_at : List Resolved → ℕ → Option Kind
kind_at s t = option_map (λ r. r.kind) (slice_get s t)

-- the components of a SEQUENCE or SET, None for another kind
abbrev pub components_in : Kind → Option (List Component)
components_in (a_sequence e cs) = Some cs
components_in (a_set e cs) = Some cs
components_in k = None

-- the alternatives of a CHOICE, root and additions, None for another kind
abbrev pub alternatives_in : Kind → Option (List Alternative)
alternatives_in (a_choice root e more) = Some (root ++ more)
alternatives_in k = None

-- the items of an enumeration, root and additions, None for another kind
abbrev pub items_in : Kind → Option (List Item)
items_in (an_enumerated root e more) = Some (root ++ more)
items_in k = None

-- the named bits of a BIT STRING that has some, None for another kind
abbrev pub bits_in : Kind → Option (List NamedBit)
bits_in (a_named_bit_string bs) = Some bs
bits_in k = None

-- type t of schema s has these parts
pub record Has {A : Type 0} (parts : Kind → Option (List A)) (s : List Resolved) (t : ℕ) (as' : List A) : Type 0 where
  pub kind : Kind
  pub is : kind_at s t ≡ Some kind
  pub are : parts kind ≡ Some as'

-- schema s has type t, which is of another kind
pub record IsOther {A : Type 0} (parts : Kind → Option (List A)) (s : List Resolved) (t : ℕ) : Type 0 where
  pub kind : Kind
  pub is : kind_at s t ≡ Some kind
  pub none : parts kind ≡ None

-- the place of the first of some names that is n, from 0; None if none is
abbrev pub place_of : List (List ℕ) → List ℕ → Option ℕ
place_of [] n = None
place_of (m ∷ ms) n = if bytes_eq m n then Some 0 else option_map suc (place_of ms n)

-- the number of the first item with the name; None if none has it
abbrev pub number_of : List Item → List ℕ → Option ℤ
number_of [] n = None
number_of (i ∷ is) n = if bytes_eq i.name n then Some i.number else number_of is n

-- the place in the string of the first bit with the name, from 0; None if none has it
abbrev pub bit_of : List NamedBit → List ℕ → Option ℕ
bit_of [] n = None
bit_of (b ∷ bs) n = if bytes_eq b.name n then Some b.place else bit_of bs n

abbrev pub component_names : List Component → List (List ℕ)
component_names cs = map (λ c. c.name) cs

abbrev pub alternative_names : List Alternative → List (List ℕ)
alternative_names as' = map (λ a. a.name) as'
