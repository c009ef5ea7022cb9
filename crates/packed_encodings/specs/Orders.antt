-- Members of SEQUENCE and SET, their order, and additions after the marker (X.680, clauses 8.6 and 25; X.691, clauses
-- 19 to 23).
use Rattle.std.specs.Prelude.{◌≡◌, ℕ, ◌==◌, Bool, true, false, ◌||◌, if◌then◌else◌, List, [], ◌∷◌, map, Option, Some}
use Rattle.std.specs.Prelude.{None}
use Rattle.asn_base.specs.Abstract.{AbstractValue, Row, end, absent, present}
use Rattle.asn_base.specs.Types.{Alternative, mandatory, optional, default, addition, Presence, TypeNumber, Component}
use Rattle.asn_base.specs.Types.{Resolved}
use Rattle.asn_base.specs.Order.{place_among, precedes}
use Rattle.asn_base.specs.Typed.{group_of}
use Rattle.asn_base.specs.Schemas.{is_addition}
use Rattle.packed_encodings.specs.Lengths.{Bits, Items}

-- ---- tags

-- how many alternatives are before type t in the canonical order of tags, which is its place among them (X.691, clause
-- 23.4)
abbrev pub canonical_place : List Resolved → List Alternative → TypeNumber → ℕ
canonical_place s as' t = place_among s (map (λ a. a.type) as') t

-- ---- members

-- a component of a SEQUENCE or SET that is absent, or present with its value or with the bits of its value
pub data Member (X : Type 0) : Type 0 where
  missing : Component → Member X
  standing : Component → X → Member X

-- the definition of the component that a member is one of
abbrev pub component : {X : Type 0} → Member X → Component
component (missing c) = c
component (standing c x) = c

-- whether the member, a component, is present
abbrev pub is_present : {X : Type 0} → Member X → Bool
is_present (missing c) = false
is_present (standing c x) = true

-- whether one of the components is present
abbrev pub any_present : {X : Type 0} → List (Member X) → Bool
any_present [] = false
any_present (m ∷ ms) = is_present m || any_present ms

-- the members are the components, in order of definition, each with the value that it has in the row
pub data Beside : List Component → Row → List (Member AbstractValue) → Type 0 where
  beside_none : Beside [] end []
  beside_absent : {c : Component} {cs : List Component} {ws : Row} {ms : List (Member AbstractValue)}
      → Beside cs ws ms
      → Beside (c ∷ cs) (absent ws) (missing c ∷ ms)
  beside_present : {c : Component} {cs : List Component} {w : AbstractValue} {ws : Row}
      {ms : List (Member AbstractValue)}
      → Beside cs ws ms
      → Beside (c ∷ cs) (present w ws) (standing c w ∷ ms)

-- the members whose components are in the root, in order
abbrev pub root_members : {X : Type 0} → List (Member X) → List (Member X)
root_members [] = []
root_members (m ∷ ms) = if is_addition (component m) then root_members ms else m ∷ root_members ms

-- the members whose components come after the extension marker, in order
abbrev pub past_marker : {X : Type 0} → List (Member X) → List (Member X)
past_marker [] = []
past_marker (m ∷ ms) = if is_addition (component m) then m ∷ past_marker ms else past_marker ms

-- the members with m put in its place, directly after the first ones, whose tags are before its own
abbrev pub placed_by_tag : {X : Type 0} → List Resolved → Member X → List (Member X) → List (Member X)
placed_by_tag s m [] = m ∷ []
placed_by_tag s m (n ∷ ns) =
    if precedes s (component n).type (component m).type then n ∷ placed_by_tag s m ns else m ∷ (n ∷ ns)

-- the members in the canonical order of their tags (X.691, clause 21.1)
abbrev pub canonical : {X : Type 0} → List Resolved → List (Member X) → List (Member X)
canonical s [] = []
canonical s (m ∷ ms) = placed_by_tag s m (canonical s ms)

-- whether a component of this presence is OPTIONAL or has a DEFAULT, and so has a bit, 1 if it is present (X.691,
-- clauses 19.2 and 19.9)
abbrev pub has_bit : Presence → Bool
has_bit mandatory = false
has_bit optional = true
has_bit (default d) = true
has_bit (addition o g) = o

-- ---- additions

-- a component by itself after the marker, or the components in version brackets (X.680, clause 25)
pub data Addition (X : Type 0) : Type 0 where
  alone : Member X → Addition X
  bracketed : List (Member X) → Addition X

-- whether the component is in the version brackets with number g (X.680, clause 25)
abbrev pub is_of_group : {X : Type 0} → ℕ → Member X → Bool
is_of_group g m = elim (group_of (component m).presence) [ None ↦ false | Some h ↦ g == h ]

-- The additions with one more component in front, which is in the version brackets with this number, if in any. It
-- joins the first addition if that has the same brackets.
abbrev pub in_front : {X : Type 0} → Option ℕ → Member X → List (Addition X) → List (Addition X)
in_front None m ds = alone m ∷ ds
in_front (Some g) m (bracketed (n ∷ ns) ∷ ds) =
    if is_of_group g n then bracketed (m ∷ (n ∷ ns)) ∷ ds else bracketed (m ∷ []) ∷ (bracketed (n ∷ ns) ∷ ds)
in_front (Some g) m ds = bracketed (m ∷ []) ∷ ds

-- the components after the marker as additions, with those in the same version brackets as one (X.680, clause 25)
abbrev pub additions : {X : Type 0} → List (Member X) → List (Addition X)
additions [] = []
additions (m ∷ ms) = in_front (group_of (component m).presence) m (additions ms)

-- ---- the order in a SET OF

-- The first bits are at most the second ones, after the shorter ones are filled with zeros (X.691, clause 22.1).
abbrev pub BitsAtMost : Bits → Bits → Type 0
BitsAtMost [] ys = Unit {0}
BitsAtMost (x ∷ xs) [] = (x ≡ false) × BitsAtMost xs []
BitsAtMost (false ∷ xs) (true ∷ ys) = Unit {0}
BitsAtMost (true ∷ xs) (false ∷ ys) = ⊥
BitsAtMost (false ∷ xs) (false ∷ ys) = BitsAtMost xs ys
BitsAtMost (true ∷ xs) (true ∷ ys) = BitsAtMost xs ys

-- the bits of each item are at most those of the next (X.691, clause 22.1)
pub data BitsAscend : Items → Type 0 where
  ascending_none : BitsAscend []
  ascending_one : {x : Bits} → BitsAscend (x ∷ [])
  ascending_more : {x y : Bits} {ys : Items} → BitsAtMost x y → BitsAscend (y ∷ ys) → BitsAscend (x ∷ y ∷ ys)
