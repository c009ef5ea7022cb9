-- When a type is a later version of another one: both are the same, except for additions that were appended at
-- extension markers (X.680, clauses 7, 20, 25 and 29).
use Rattle.std.specs.Prelude.{◌≡◌, ◌↔◌, ◌<◌, ◌≤◌, ℕ, ℤ, Bool, true, List, [], ◌∷◌, length, map, Option, Some, None}
use Rattle.std.specs.Prelude.{slice_get}
use Rattle.asn_base.specs.declared.strings.StringKind.{StringKind}
use Rattle.asn_base.specs.Abstract.{AbstractValue}
use Rattle.asn_base.specs.Names.{IsMember}
use Rattle.asn_base.specs.Types.{Constraint, Item, NamedBit, Alternative, Kind, a_boolean, an_integer, an_enumerated}
use Rattle.asn_base.specs.Types.{a_bit_string, a_named_bit_string, an_octet_string, a_null, an_object_identifier}
use Rattle.asn_base.specs.Types.{a_relative_oid, a_utf8_string, a_restricted_string, a_sequence, a_set, a_sequence_of}
use Rattle.asn_base.specs.Types.{a_set_of, a_choice, Presence, mandatory}
use Rattle.asn_base.specs.Types.{optional, default, addition, Component, Resolved}
use Rattle.asn_base.specs.Typed.{IsAllowed, IsOfGroup}
use Rattle.asn_base.specs.Schemas.{IsNumber, IsSize, is_addition}
use Rattle.asn_base.specs.Same.{Same}
use Rattle.later_versions.specs.Projected.{members_of, projected, left_out}

-- two constraints allow the same of the numbers or sizes for which P holds, and give the packed encoding the same
-- bounds
pub record LeaveSame (P : ℤ → Type 0) (c d : Constraint) : Type 0 where
  pub allowed : (z : ℤ) → P z → (IsAllowed c z ↔ IsAllowed d z)
  pub visible : c.visible ≡ d.visible

-- the second list begins with the elements of the first, one for one related by R; more may follow
pub record IsFront {A : Type 0} (R : A → A → Type 0) (xs ys : List A) : Type 0 where
  pub none_dropped : length xs ≤ length ys
  pub projected : (i : ℕ) (x y : A) → slice_get xs i ≡ Some x → slice_get ys i ≡ Some y → R x y

-- the same bits have the same names, in any order
abbrev pub NameSame : List NamedBit → List NamedBit → Type 0
NameSame bs cs = (b : NamedBit) → (IsMember b bs ↔ IsMember b cs)

-- ---- components

-- A component of type t of schema s has the same kind of presence in both versions. In the default of the later version
-- the appended components are absent, and without them it is the same as the earlier default.
pub data IsMarkedAlike (s : List Resolved) (t : ℕ) : Presence → Presence → Type 0 where
  both_mandatory : IsMarkedAlike s t mandatory mandatory
  both_optional : IsMarkedAlike s t optional optional
  both_default : {d e : AbstractValue}
      → left_out s t e ≡ 0
      → Same s t d (projected s t e)
      → IsMarkedAlike s t (default d) (default e)
  both_additions : {o : Bool} {g h : Option ℕ} → IsMarkedAlike s t (addition o g) (addition o h)

-- the components are the same in their name and their presence
pub record IsSameComponent (s : List Resolved) (c d : Component) : Type 0 where
  pub name : c.name ≡ d.name
  pub mark : IsMarkedAlike s c.type c.presence d.presence

-- the components at these places are in the same version brackets
pub record AreInOneGroup (cs : List Component) (i j : ℕ) : Type 0 where
  pub group : ℕ
  pub first : Component
  pub second : Component
  pub at_first : slice_get cs i ≡ Some first
  pub at_second : slice_get cs j ≡ Some second
  pub of_first : IsOfGroup group first
  pub of_second : IsOfGroup group second

-- Components of a later version: the same ones, and additions after them. Groups are the same, and those of appended
-- components are new: none has a component of the earlier version.
pub record AreLater (s : List Resolved) (cs ds : List Component) : Type 0 where
  pub front : IsFront (IsSameComponent s) cs ds
  pub appended : (i : ℕ) (d : Component) → length cs ≤ i → slice_get ds i ≡ Some d → is_addition d ≡ true
  pub groups : (i j : ℕ) → i < length cs → j < length cs → (AreInOneGroup cs i j ↔ AreInOneGroup ds i j)
  pub whole : (i j : ℕ) → i < length cs → length cs ≤ j → AreInOneGroup ds i j → ⊥

-- ---- types

-- the kind of a type of schema s, and its kind in a later version, apart from the types of members
pub data IsLaterKind (s : List Resolved) : Kind → Kind → Type 0 where
  later_boolean : IsLaterKind s a_boolean a_boolean
  later_integer : {c d : Constraint} → LeaveSame IsNumber c d → IsLaterKind s (an_integer c) (an_integer d)
  later_enumerated : {e : Bool} {root more all : List Item}
      → IsFront (λ i j. i ≡ j) more all
      → IsLaterKind s (an_enumerated root e more) (an_enumerated root e all)
  later_bit_string : {c d : Constraint} → LeaveSame IsSize c d → IsLaterKind s (a_bit_string c) (a_bit_string d)
  later_named_bits : {bs cs : List NamedBit}
      → NameSame bs cs
      → IsLaterKind s (a_named_bit_string bs) (a_named_bit_string cs)
  later_octet_string : {c d : Constraint} → LeaveSame IsSize c d → IsLaterKind s (an_octet_string c) (an_octet_string d)
  later_null : IsLaterKind s a_null a_null
  later_object_identifier : IsLaterKind s an_object_identifier an_object_identifier
  later_relative_oid : IsLaterKind s a_relative_oid a_relative_oid
  later_utf8_string : {c d : Constraint} → LeaveSame IsSize c d → IsLaterKind s (a_utf8_string c) (a_utf8_string d)
  later_restricted_string : {k : StringKind} {codes : List ℕ} {c d : Constraint}
      → LeaveSame IsSize c d
      → IsLaterKind s (a_restricted_string k codes c) (a_restricted_string k codes d)
  later_sequence : {e : Bool} {cs ds : List Component}
      → AreLater s cs ds
      → IsLaterKind s (a_sequence e cs) (a_sequence e ds)
  later_set : {e : Bool} {cs ds : List Component}
      → AreLater s cs ds
      → IsLaterKind s (a_set e cs) (a_set e ds)
  later_sequence_of : {c d : Constraint} {u v : ℕ}
      → LeaveSame IsSize c d
      → IsLaterKind s (a_sequence_of c u) (a_sequence_of d v)
  later_set_of : {c d : Constraint} {u v : ℕ}
      → LeaveSame IsSize c d
      → IsLaterKind s (a_set_of c u) (a_set_of d v)
  later_choice : {e : Bool} {root others more all : List Alternative}
      → map (λ a. a.name) root ≡ map (λ a. a.name) others
      → IsFront (λ a b. a.name ≡ b.name) more all
      → IsLaterKind s (a_choice root e more) (a_choice others e all)

-- a type and its later version, with the same tags
pub record IsLaterType (s : List Resolved) (q r : Resolved) : Type 0 where
  pub tags : q.tags ≡ r.tags
  pub kind : IsLaterKind s q.kind r.kind

-- the type to which a list of members' places leads from type t
abbrev pub leads : List Resolved → ℕ → List ℕ → Option ℕ
leads s t [] = Some t
leads s t (i ∷ places) = elim (slice_get (members_of s t) i) [ None ↦ None | Some u ↦ leads s u places ]

-- Type t' of schema s' is a later version of type t of schema s. If a list of places leads to a type from both, it
-- leads to a type and a later version of it.
abbrev pub Later : (s : List Resolved) (t : ℕ) (s' : List Resolved) (t' : ℕ) → Type 0
Later s t s' t' =
    (places : List ℕ) (u u' : ℕ) (q r : Resolved)
    → leads s t places ≡ Some u
    → leads s' t' places ≡ Some u'
    → slice_get s u ≡ Some q
    → slice_get s' u' ≡ Some r
    → IsLaterType s q r
