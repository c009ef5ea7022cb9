-- The tags that can be outermost in an encoding of a type, and which members of a list must differ in them (X.680,
-- clauses 25, 27 and 29).
use Rattle.std.specs.Prelude.{◌≡◌, ℕ, ◌<◌, ◌≤◌, Bool, true, false, ◌||◌, List, [], ◌∷◌, Option, Some, slice_get}
use Rattle.trees.specs.declared.module.TagDefault.{TagDefault}
use Rattle.trees.specs.declared.types.ListKind.{ListKind}
use Rattle.trees.specs.declared.types.ListKind.TheVariants.{Sequence, Set, Choice}
use Rattle.trees.specs.declared.types.Standing.{Standing}
use Rattle.trees.specs.declared.types.Standing.TheVariants.{Root, Addition}
use Rattle.trees.specs.Types.{PresenceTree, mandatory, optional, default}
use Rattle.type_table.specs.Table.{Part, Type', members, IsWrittenType, IsUnderlying}
use Rattle.tagging.specs.declared.path.TagForm.{TagForm}
use Rattle.tagging.specs.Tags.{Path, Label, Tags}

-- tag t can be the outermost one in an encoding of type i of the table of written types
pub data CanBeFirst (ts : List Type') : ℕ → Label → Type 0 where
  -- t is the first of the tags of the type
  outermost : {i : ℕ} {t : Label} {f : TagForm} {p : Path} →
      Tags ts i ((t, f) ∷ p) →
      CanBeFirst ts i t
  -- the type is an untagged CHOICE, c its number after references, and t a first tag of its alternative n
  alternative : {i : ℕ} {t : Label} {d : TagDefault} {l : Option (ℕ × ℕ)}
      (c : ℕ) (marker : Bool) (cs : List Part) (n : ℕ) (a : Part) →
      Tags ts i [] →
      IsUnderlying ts i c →
      IsWrittenType ts c (members Choice marker cs) d l →
      slice_get cs n ≡ Some a →
      CanBeFirst ts a.ty t →
      CanBeFirst ts i t

-- no tag can be first in an encoding of both types
abbrev pub Apart : List Type' → ℕ → ℕ → Type 0
Apart ts i j = (t : Label) → CanBeFirst ts i t → CanBeFirst ts j t → ⊥

-- true for an addition to a SEQUENCE, SET or CHOICE, in version brackets or not; false for a member of the root (X.680,
-- clauses 25, 27 and 29)
abbrev pub is_added_member : Standing → Bool
is_added_member Root = false
is_added_member (Addition g) = true

-- OPTIONAL or DEFAULT comes after the type of a component with this presence (X.680, clause 25)
abbrev pub is_optional : PresenceTree → Bool
is_optional mandatory = false
is_optional optional = true
is_optional (default v) = true

-- a component may be absent if OPTIONAL or DEFAULT follows it (X.680, clause 25). Each addition may be absent too, in
-- this compiler also when a later addition is there (own rule)
abbrev pub member_can_be_absent : Part → Bool
member_can_be_absent c = is_added_member c.standing || is_optional c.presence

-- each member from index p to before index q may be absent
abbrev pub AllMayBeAbsent : List Part → ℕ → ℕ → Type 0
AllMayBeAbsent cs p q = (r : ℕ) (c : Part) →
    p ≤ r →
    r < q →
    slice_get cs r ≡ Some c →
    member_can_be_absent c ≡ true

-- The member at p and, later, the one at q can come next at the same point of an encoding. In a SEQUENCE they can if
-- all from p to before q may be absent. So all additions may follow the last component of the root that can't be
-- absent. Additions that later versions may have do not count.
abbrev pub Together : ListKind → List Part → ℕ → ℕ → Type 0
Together Sequence cs p q = AllMayBeAbsent cs p q
Together Set cs p q = Unit {0}
Together Choice cs p q = Unit {0}

-- the first tags of two members of a list differ if both can come next (X.680, clauses 25, 27 and 29; for additions to
-- a SEQUENCE an own rule)
abbrev pub Distinct : List Type' → ListKind → List Part → Type 0
Distinct ts k cs = (p q : ℕ) (c d : Part) →
    p < q →
    slice_get cs p ≡ Some c →
    slice_get cs q ≡ Some d →
    Together k cs p q →
    Apart ts c.ty d.ty
