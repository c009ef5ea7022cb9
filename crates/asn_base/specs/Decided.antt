-- When a value that holds others is of a kind, part by part.
use Rattle.std.specs.Prelude.{◌≡◌, ℕ, ◌+◌, ◌*◌, ◌<◌, ◌++◌, Bool, false, suc, List, Option, Some, None}
use Rattle.std.specs.Prelude.{get_or, slice_get}
use Rattle.asn_base.specs.Abstract.{AbstractValue, fields, list, alternative, Row, end, present}
use Rattle.asn_base.specs.Types.{Alternative, Kind, a_sequence, a_set, a_sequence_of, a_set_of, a_choice, default, addition}
use Rattle.asn_base.specs.Types.{Component, Resolved}
use Rattle.asn_base.specs.Schemas.{components}
use Rattle.asn_base.specs.Typed.{IsAllowedSize, members, IsOfGroup, GroupsAreWhole, ValueIn, MayBeAbsent, AreComponents}
use Rattle.asn_base.specs.Typed.{AreElements, nodes}
use Rattle.asn_base.specs.Same.{Alike}

-- the value is one of the type of alternative i
abbrev pub IsChosen : List Resolved → ℕ → List Alternative → ℕ → AbstractValue → Type 0
IsChosen s n as' i v = (a : Alternative) × (slice_get as' i ≡ Some a) × ValueIn s n a.type v

-- a value of this kind that holds other values, each of which has at most n levels
abbrev pub HoldsMembers : List Resolved → ℕ → Kind → AbstractValue → Type 0
HoldsMembers s n (a_sequence e cs) (fields vs) = AreComponents s n cs vs × GroupsAreWhole cs vs
HoldsMembers s n (a_set e cs) (fields vs) = AreComponents s n cs vs × GroupsAreWhole cs vs
HoldsMembers s n (a_sequence_of c u) (list vs) = AreElements s n u vs × IsAllowedSize c (members vs)
HoldsMembers s n (a_set_of c u) (list vs) = AreElements s n u vs × IsAllowedSize c (members vs)
HoldsMembers s n (a_choice root e more) (alternative i v) = IsChosen s n (root ++ more) i v
HoldsMembers s n k v = ⊥

-- a value of the component, or its absence, if the component may be absent
abbrev pub IsComponent : List Resolved → ℕ → Component → Option AbstractValue → Type 0
IsComponent s n c None = MayBeAbsent s n c.type c.presence
IsComponent s n c (Some v) = ValueIn s n c.type v

-- the SEQUENCE or SET with number t has component c at place i, from 0
pub record HasComponent (s : List Resolved) (t i : ℕ) (c : Component) : Type 0 where
  pub type : Resolved
  pub found : slice_get s t ≡ Some type
  pub at : slice_get (components type.kind) i ≡ Some c

-- the nodes of a value; an absent one has none
abbrev pub nodes_of : Option AbstractValue → ℕ
nodes_of None = 0
nodes_of (Some v) = nodes v

-- the component is absent, but it must be present if a component of group g is
abbrev pub IsDue : ℕ → Component → Option AbstractValue → Type 0
IsDue g c None = c.presence ≡ addition false (Some g)
IsDue g c (Some v) = ⊥

-- the component is present, and it is of group g
abbrev pub IsPresentOf : ℕ → Component → Option AbstractValue → Type 0
IsPresentOf g c None = ⊥
IsPresentOf g c (Some v) = IsOfGroup g c

-- two lists have the same bits, except for zeros at the end
abbrev pub AreAlikeBits : List Bool → List Bool → Type 0
AreAlikeBits a b = (i : ℕ) → get_or a i false ≡ get_or b i false

-- the eight bits from offset 8 * j on are the same, and bits after the end count as zeros
abbrev pub HaveSameOctet : List Bool → List Bool → ℕ → Type 0
HaveSameOctet a b j = (k : ℕ) → k < 8 → get_or a (8 * j + k) false ≡ get_or b (8 * j + k) false

-- a value that holds no others
abbrev pub IsFlat : AbstractValue → Type 0
IsFlat (fields vs) = ⊥
IsFlat (list vs) = ⊥
IsFlat (alternative i v) = ⊥
IsFlat v = Unit {0}

-- the component has a default, and its default is alike to the value
abbrev pub HasDefaultAlike : List Resolved → Component → AbstractValue → Type 0
HasDefaultAlike s c v = (d : AbstractValue) × (c.presence ≡ default d) × Alike s c.type d v

-- two values of a component are alike; an absent one counts as the component's default
abbrev pub AlikeAt : List Resolved → Component → Option AbstractValue → Option AbstractValue → Type 0
AlikeAt s c None None = Unit {0}
AlikeAt s c None (Some w) = HasDefaultAlike s c w
AlikeAt s c (Some v) None = HasDefaultAlike s c v
AlikeAt s c (Some v) (Some w) = Alike s c.type v w

-- two values of the type of alternative i are alike
abbrev pub AlikeChosen : List Resolved → List Alternative → ℕ → AbstractValue → AbstractValue → Type 0
AlikeChosen s as' i v w = (a : Alternative) × (slice_get as' i ≡ Some a) × Alike s a.type v w

-- n members of the row are alike to x
pub data Count (s : List Resolved) (u : ℕ) (x : AbstractValue) : Row → ℕ → Type 0 where
  no_more : Count s u x end 0
  counted : {v : AbstractValue} {vs : Row} {n : ℕ} → Alike s u x v → Count s u x vs n →
      Count s u x (present v vs) (suc n)
  passed : {v : AbstractValue} {vs : Row} {n : ℕ}
      → (Alike s u x v → ⊥)
      → Count s u x vs n
      → Count s u x (present v vs) n

-- fewer members of the first row than of the second are alike to x
abbrev pub IsRarer : List Resolved → ℕ → AbstractValue → Row → Row → Type 0
IsRarer s u x vs ws = (m n : ℕ) × (m < n) × Count s u x vs m × Count s u x ws n
