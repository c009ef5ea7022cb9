-- Where a type is no later version of another one, and why: the first condition of a later version that fails (X.680,
-- clauses 7, 20, 22, 25, 29 and 51).
use Rattle.std.specs.Prelude.{◌≡◌, ◌⊎◌, ◌↔◌, ◌<◌, ◌≤◌, ℕ, ℤ, Bool, true, false, List, [], ◌∷◌, length, Option, Some}
use Rattle.std.specs.Prelude.{slice_get}
use Rattle.asn_base.specs.declared.strings.StringKind.{StringKind}
use Rattle.asn_base.specs.Abstract.{AbstractValue}
use Rattle.asn_base.specs.Types.{Constraint, Item, NamedBit, Alternative, Kind, a_boolean, an_integer, an_enumerated}
use Rattle.asn_base.specs.Types.{a_bit_string, a_named_bit_string, an_octet_string, a_null, an_object_identifier}
use Rattle.asn_base.specs.Types.{a_relative_oid, a_utf8_string, a_restricted_string, a_sequence, a_set, a_sequence_of}
use Rattle.asn_base.specs.Types.{a_set_of, a_choice, Presence, mandatory, optional, default, addition, Component}
use Rattle.asn_base.specs.Types.{Resolved}
use Rattle.asn_base.specs.Typed.{IsAllowed}
use Rattle.asn_base.specs.Same.{Same}
use Rattle.asn_base.specs.Schemas.{IsNumber, IsSize, is_addition}
use Rattle.later_versions.specs.Projected.{projected, left_out}
use Rattle.later_versions.specs.Later.{AreInOneGroup, IsFront, IsLaterType, IsSameComponent, Later, NameSame, leads}
use Rattle.later_versions.specs.declared.reason.Reason.{Reason}
use Rattle.later_versions.specs.declared.reason.Reason.TheVariants as reasons
use Rattle.later_versions.specs.declared.reason.Difference.{Difference}
use Rattle.later_versions.specs.declared.reason.Comparison.{Comparison}
use Rattle.later_versions.specs.declared.reason.Comparison.TheVariants as answers

-- Both types are of one kind, whatever else differs. BIT STRINGs with and without named bits are of two kinds, and so
-- are strings of two types.
pub data IsOneKind : Kind → Kind → Type 0 where
  two_booleans : IsOneKind a_boolean a_boolean
  two_integers : {c d : Constraint} → IsOneKind (an_integer c) (an_integer d)
  two_enumerated : {e f : Bool} {root others more all : List Item}
      → IsOneKind (an_enumerated root e more) (an_enumerated others f all)
  two_bit_strings : {c d : Constraint} → IsOneKind (a_bit_string c) (a_bit_string d)
  two_named_bits : {bs cs : List NamedBit} → IsOneKind (a_named_bit_string bs) (a_named_bit_string cs)
  two_octet_strings : {c d : Constraint} → IsOneKind (an_octet_string c) (an_octet_string d)
  two_nulls : IsOneKind a_null a_null
  two_object_identifiers : IsOneKind an_object_identifier an_object_identifier
  two_relative_oids : IsOneKind a_relative_oid a_relative_oid
  two_utf8_strings : {c d : Constraint} → IsOneKind (a_utf8_string c) (a_utf8_string d)
  two_restricted_strings : {k : StringKind} {xs ys : List ℕ} {c d : Constraint}
      → IsOneKind (a_restricted_string k xs c) (a_restricted_string k ys d)
  two_sequences : {e f : Bool} {cs ds : List Component} → IsOneKind (a_sequence e cs) (a_sequence f ds)
  two_sets : {e f : Bool} {cs ds : List Component} → IsOneKind (a_set e cs) (a_set f ds)
  two_sequences_of : {c d : Constraint} {u v : ℕ} → IsOneKind (a_sequence_of c u) (a_sequence_of d v)
  two_sets_of : {c d : Constraint} {u v : ℕ} → IsOneKind (a_set_of c u) (a_set_of d v)
  two_choices : {e f : Bool} {root others more all : List Alternative}
      → IsOneKind (a_choice root e more) (a_choice others f all)

-- ---- constraints

-- two constraints allow the same of the numbers or sizes for which P holds
abbrev pub AllowSame : (P : ℤ → Type 0) → Constraint → Constraint → Type 0
AllowSame P c d = (z : ℤ) → P z → (IsAllowed c z ↔ IsAllowed d z)

-- what differs in constraints, first what they allow, whose reason is given, then the bounds of the packed encoding
pub data ConstraintDiffers (P : ℤ → Type 0) (allowed : Reason) (c d : Constraint) : Reason → Type 0 where
  other_allowed : (AllowSame P c d → ⊥) → ConstraintDiffers P allowed c d allowed
  other_bounds : AllowSame P c d → (c.visible ≡ d.visible → ⊥) → ConstraintDiffers P allowed c d reasons.Bounds

-- ---- items and alternatives

-- the lists are the same by R before place i, where one of them ends or their elements differ
pub record AreSameTo {A : Type 0} (R : A → A → Type 0) (xs ys : List A) (i : ℕ) : Type 0 where
  pub in_first : i ≤ length xs
  pub in_second : i ≤ length ys
  pub before : (j : ℕ) (x y : A) → j < i → slice_get xs j ≡ Some x → slice_get ys j ≡ Some y → R x y
  pub other : (x y : A) → slice_get xs i ≡ Some x → slice_get ys i ≡ Some y → R x y → ⊥

-- What differs in items or alternatives: first the marker, then the root at its first place that differs, then the
-- additions. Of the additions of the second list more may follow.
pub data ListsDiffer {A : Type 0} (R : A → A → Type 0) (e : Bool) (root more : List A) (f : Bool) (others all : List A)
    : Reason → Type 0 where
  other_marker : (e ≡ f → ⊥) → ListsDiffer R e root more f others all reasons.Marker
  other_root : {i : ℕ}
      → e ≡ f
      → AreSameTo R root others i
      → (i < length root) ⊎ (i < length others)
      → ListsDiffer R e root more f others all (reasons.Root i)
  other_addition : {i : ℕ}
      → e ≡ f
      → length root ≡ length others
      → IsFront R root others
      → AreSameTo R more all i
      → i < length more
      → ListsDiffer R e root more f others all (reasons.Addition i)

-- ---- components

-- both are mandatory, OPTIONAL, with a DEFAULT, or additions with or without OPTIONAL
pub data IsOnePresence : Presence → Presence → Type 0 where
  two_mandatory : IsOnePresence mandatory mandatory
  two_optional : IsOnePresence optional optional
  two_defaults : {d e : AbstractValue} → IsOnePresence (default d) (default e)
  two_additions : {o : Bool} {g h : Option ℕ} → IsOnePresence (addition o g) (addition o h)

-- what differs in the presence of components at place i, whose type in the earlier version is t
pub data PresenceDiffers (s : List Resolved) (t i : ℕ) : Presence → Presence → Reason → Type 0 where
  other_presence : {p q : Presence} → (IsOnePresence p q → ⊥) → PresenceDiffers s t i p q (reasons.Presence i)
  other_default : {d e : AbstractValue}
      → ((left_out s t e ≡ 0) × Same s t d (projected s t e) → ⊥)
      → PresenceDiffers s t i (default d) (default e) (reasons.Default i)

-- what differs in the components at place i, first their names
pub data ComponentDiffers (s : List Resolved) (i : ℕ) (c d : Component) : Reason → Type 0 where
  other_name : (c.name ≡ d.name → ⊥) → ComponentDiffers s i c d (reasons.Name i)
  other_mark : {e : Reason}
      → c.name ≡ d.name
      → PresenceDiffers s c.type i c.presence d.presence e
      → ComponentDiffers s i c d e

-- the components before place i are the same, one for one
abbrev pub AreSameBefore : List Resolved → List Component → List Component → ℕ → Type 0
AreSameBefore s cs ds i =
    (j : ℕ) (c d : Component)
    → j < i
    → slice_get cs j ≡ Some c
    → slice_get ds j ≡ Some d
    → IsSameComponent s c d

-- the components from place n to place i, without it, are additions
abbrev pub AreAdditions : List Component → ℕ → ℕ → Type 0
AreAdditions ds n i = (j : ℕ) (d : Component) → n ≤ j → j < i → slice_get ds j ≡ Some d → is_addition d ≡ true

-- What differs in lists of components: the first component of the earlier version that is missing or another one; then
-- the first one after those that is no addition; then version brackets.
pub data ComponentsDiffer (s : List Resolved) (cs ds : List Component) : Reason → Type 0 where
  is_removed : {i : ℕ}
      → AreSameBefore s cs ds i
      → i < length cs
      → i ≡ length ds
      → ComponentsDiffer s cs ds (reasons.Removed i)
  is_other : {e : Reason} (i : ℕ) (c d : Component)
      → AreSameBefore s cs ds i
      → slice_get cs i ≡ Some c
      → slice_get ds i ≡ Some d
      → ComponentDiffers s i c d e
      → ComponentsDiffer s cs ds e
  is_no_addition : {i : ℕ} (d : Component)
      → IsFront (IsSameComponent s) cs ds
      → length cs ≤ i
      → AreAdditions ds (length cs) i
      → slice_get ds i ≡ Some d
      → is_addition d ≡ false
      → ComponentsDiffer s cs ds (reasons.Appended i)
  -- Component i is in one group with other components of the earlier version, of those up to itself. It is the first
  -- one: the components before it are in the same groups.
  other_brackets : {i : ℕ}
      → IsFront (IsSameComponent s) cs ds
      → AreAdditions ds (length cs) (length ds)
      → i ≤ length cs
      → ((j k : ℕ) → j < i → k < i → (AreInOneGroup cs j k ↔ AreInOneGroup ds j k))
      → (((j : ℕ) → j < length cs → j ≤ i → (AreInOneGroup cs j i ↔ AreInOneGroup ds j i)) → ⊥)
      → ComponentsDiffer s cs ds (reasons.Brackets i)

-- ---- types

-- what differs in the kind of a type of schema s and the kind of another type, apart from the types of members
pub data KindDiffers (s : List Resolved) : Kind → Kind → Reason → Type 0 where
  other_kind : {k l : Kind} → (IsOneKind k l → ⊥) → KindDiffers s k l reasons.Kind
  other_integer : {c d : Constraint} {e : Reason}
      → ConstraintDiffers IsNumber reasons.Numbers c d e
      → KindDiffers s (an_integer c) (an_integer d) e
  other_enumerated : {m n : Bool} {root others more all : List Item} {e : Reason}
      → ListsDiffer (λ i j. i ≡ j) m root more n others all e
      → KindDiffers s (an_enumerated root m more) (an_enumerated others n all) e
  other_bit_string : {c d : Constraint} {e : Reason}
      → ConstraintDiffers IsSize reasons.Sizes c d e
      → KindDiffers s (a_bit_string c) (a_bit_string d) e
  other_bits : {bs cs : List NamedBit}
      → (NameSame bs cs → ⊥)
      → KindDiffers s (a_named_bit_string bs) (a_named_bit_string cs) reasons.NamedBits
  other_octet_string : {c d : Constraint} {e : Reason}
      → ConstraintDiffers IsSize reasons.Sizes c d e
      → KindDiffers s (an_octet_string c) (an_octet_string d) e
  other_utf8_string : {c d : Constraint} {e : Reason}
      → ConstraintDiffers IsSize reasons.Sizes c d e
      → KindDiffers s (a_utf8_string c) (a_utf8_string d) e
  other_alphabet : {k : StringKind} {xs ys : List ℕ} {c d : Constraint}
      → (xs ≡ ys → ⊥)
      → KindDiffers s (a_restricted_string k xs c) (a_restricted_string k ys d) reasons.Alphabet
  other_restricted_string : {k : StringKind} {xs : List ℕ} {c d : Constraint} {e : Reason}
      → ConstraintDiffers IsSize reasons.Sizes c d e
      → KindDiffers s (a_restricted_string k xs c) (a_restricted_string k xs d) e
  other_sequence_marker : {m n : Bool} {cs ds : List Component}
      → (m ≡ n → ⊥)
      → KindDiffers s (a_sequence m cs) (a_sequence n ds) reasons.Marker
  other_sequence : {m : Bool} {cs ds : List Component} {e : Reason}
      → ComponentsDiffer s cs ds e
      → KindDiffers s (a_sequence m cs) (a_sequence m ds) e
  other_set_marker : {m n : Bool} {cs ds : List Component}
      → (m ≡ n → ⊥)
      → KindDiffers s (a_set m cs) (a_set n ds) reasons.Marker
  other_set : {m : Bool} {cs ds : List Component} {e : Reason}
      → ComponentsDiffer s cs ds e
      → KindDiffers s (a_set m cs) (a_set m ds) e
  other_sequence_of : {c d : Constraint} {u v : ℕ} {e : Reason}
      → ConstraintDiffers IsSize reasons.Sizes c d e
      → KindDiffers s (a_sequence_of c u) (a_sequence_of d v) e
  other_set_of : {c d : Constraint} {u v : ℕ} {e : Reason}
      → ConstraintDiffers IsSize reasons.Sizes c d e
      → KindDiffers s (a_set_of c u) (a_set_of d v) e
  other_choice : {m n : Bool} {root others more all : List Alternative} {e : Reason}
      → ListsDiffer (λ a b. a.name ≡ b.name) m root more n others all e
      → KindDiffers s (a_choice root m more) (a_choice others n all) e

-- what differs in two types, first their tags
pub data TypeDiffers (s : List Resolved) (q r : Resolved) : Reason → Type 0 where
  other_tags : (q.tags ≡ r.tags → ⊥) → TypeDiffers s q r reasons.Tags
  with_tags : {e : Reason} → q.tags ≡ r.tags → KindDiffers s q.kind r.kind e → TypeDiffers s q r e

-- ---- places

-- the first list of places is the smaller one at the first place where both differ
abbrev pub IsSmaller : List ℕ → List ℕ → Type 0
IsSmaller [] qs = ⊥
IsSmaller (i ∷ ps) [] = ⊥
IsSmaller (i ∷ ps) (j ∷ qs) = (i < j) ⊎ ((i ≡ j) × IsSmaller ps qs)

-- the first list of places comes before the second, breadth first: it is shorter, or as long and smaller
abbrev pub IsBefore : List ℕ → List ℕ → Type 0
IsBefore ps qs = (length ps < length qs) ⊎ ((length ps ≡ length qs) × IsSmaller ps qs)

-- lists of places before this one lead to types and their later versions
abbrev pub AreLaterBefore : List Resolved → ℕ → List Resolved → ℕ → List ℕ → Type 0
AreLaterBefore s t s' t' path =
    (places : List ℕ) (u u' : ℕ) (q r : Resolved)
    → IsBefore places path
    → leads s t places ≡ Some u
    → leads s' t' places ≡ Some u'
    → slice_get s u ≡ Some q
    → slice_get s' u' ≡ Some r
    → IsLaterType s q r

-- The places lead from both types to these two, and the second of these is no later version of the first, for the
-- reason. They are the first places, breadth first, that lead to such types.
pub record IsDifference (s : List Resolved) (t : ℕ) (s' : List Resolved) (t' : ℕ) (d : Difference) : Type 0 where
  pub one : Resolved
  pub other : Resolved
  pub leads_older : leads s t d.places.items ≡ Some d.older.index
  pub leads_newer : leads s' t' d.places.items ≡ Some d.newer.index
  pub at_older : slice_get s d.older.index ≡ Some one
  pub at_newer : slice_get s' d.newer.index ≡ Some other
  pub differs : TypeDiffers s one other d.reason
  pub first : AreLaterBefore s t s' t' d.places.items

-- what a comparison of type t of schema s with type t' of schema s' answers
abbrev pub IsComparison : List Resolved → ℕ → List Resolved → ℕ → Comparison → Type 0
IsComparison s t s' t' answers.Later = Later s t s' t'
IsComparison s t s' t' (answers.Differs d) = IsDifference s t s' t' d

-- whether the answer is that the second type is a later version
abbrev pub is_later : Comparison → Bool
is_later answers.Later = true
is_later (answers.Differs d) = false
