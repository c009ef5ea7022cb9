-- What extension markers require of each member of a list and of each item of an enumeration (X.680, clauses 20, 25, 27
-- and 29), and how one breaks that.
use Rattle.std.specs.Prelude.{◌≡◌, ◌⊎◌, ℕ, ◌<◌, ◌≤ℤ◌, ◌<ℤ◌, ℤ, Bool, true, false, List, Option, Some, slice_get}
use Rattle.asn_base.specs.Tags.{class_rank}
use Rattle.trees.specs.declared.module.TagDefault.{TagDefault}
use Rattle.trees.specs.declared.types.ListKind.{ListKind}
use Rattle.trees.specs.declared.types.ListKind.TheVariants.{Choice}
use Rattle.trees.specs.declared.types.Standing.TheVariants.{Addition}
use Rattle.trees.specs.Types.{PresenceTree, mandatory, optional, default, an_enumerated}
use Rattle.type_table.specs.Items.{WrittenItem, additions_of, addition_numbers}
use Rattle.type_table.specs.Table.{Part, Type', simple, members, IsWrittenType}
use Rattle.tagging.specs.Tags.{Label}
use Rattle.tagging.specs.First.{CanBeFirst, is_added_member}
use Rattle.additions.specs.declared.check.Rule.{Rule}
use Rattle.additions.specs.declared.check.Rule.TheVariants.{MarkerPlace, AdditionOrder, DefaultAddition}

-- the member comes after the extension marker, as an addition
abbrev pub IsAdded : Part → Type 0
IsAdded c = is_added_member c.standing ≡ true

-- the member of a written list is in version brackets number g of that list
abbrev pub IsInGroup : ℕ → Part → Type 0
IsInGroup g c = c.standing ≡ Addition (Some g)

-- DEFAULT comes after the type of a component with this presence (X.680, clause 25)
abbrev pub has_default : PresenceTree → Bool
has_default mandatory = false
has_default optional = false
has_default (default v) = true

-- the canonical order of tags: by class, and within a class by number (X.680, clause 8.6)
abbrev pub LabelBefore : Label → Label → Type 0
LabelBefore g f = (class_rank g.0 < class_rank f.0) ⊎ ((class_rank g.0 ≡ class_rank f.0) × (g.1 < f.1))

-- ---- what is required

-- If c, which is member n, and an earlier member are in the same version brackets, the members between them are in
-- these brackets too.
abbrev pub IsTogether : List Part → ℕ → Part → Type 0
IsTogether cs n c = (l m g : ℕ) (d e : Part) →
    l < m →
    m < n →
    slice_get cs l ≡ Some d →
    slice_get cs m ≡ Some e →
    IsInGroup g d →
    IsInGroup g c →
    IsInGroup g e

-- member n of the list, c, is at an allowed place
pub record IsPlaced (marker : Bool) (cs : List Part) (n : ℕ) (c : Part) : Type 0 where
  -- an addition is in a list with an extension marker
  pub marked : IsAdded c → marker ≡ true
  -- after an addition there are only additions: they end the list
  pub following : (m : ℕ) (d : Part) → m < n → slice_get cs m ≡ Some d → IsAdded d → IsAdded c
  -- the members of version brackets are adjacent
  pub together : IsTogether cs n c

-- the first tags of alternative n, if it is an addition to a CHOICE, come after those of each earlier addition (X.680,
-- clause 29)
abbrev pub IsInOrder : List Type' → List Part → ℕ → Part → Type 0
IsInOrder ts cs n c = (m : ℕ) (d : Part) (g f : Label) →
    m < n →
    slice_get cs m ≡ Some d →
    IsAdded d →
    IsAdded c →
    CanBeFirst ts d.ty g →
    CanBeFirst ts c.ty f →
    LabelBefore g f

-- what extension markers require of member n of a list, c
pub record Keeps (ts : List Type') (k : ListKind) (marker : Bool) (cs : List Part) (n : ℕ) (c : Part) : Type 0 where
  pub placed : IsPlaced marker cs n c
  -- an addition, also one in version brackets, has no DEFAULT (own rule; X.680 allows one)
  pub no_default : IsAdded c → has_default c.presence ≡ false
  -- the additions to a CHOICE come in the canonical order of their tags (X.680, clause 29)
  pub ordered : k ≡ Choice → IsInOrder ts cs n c

-- the number at place n is greater than each earlier one (X.680, clause 20)
abbrev pub IsAboveEarlier : List ℤ → ℕ → Type 0
IsAboveEarlier zs n = (m : ℕ) (y z : ℤ) → m < n → slice_get zs m ≡ Some y → slice_get zs n ≡ Some z → y <ℤ z

-- Place n of type i is as required. If the type is a list, its member n is; if it is an enumeration, the number of
-- addition n is.
pub record KeepsAt (ts : List Type') (i n : ℕ) : Type 0 where
  -- member n of a list is as required
  pub member : (k : ListKind) (marker : Bool) (cs : List Part) (d : TagDefault) (p : Option (ℕ × ℕ)) (c : Part) →
      IsWrittenType ts i (members k marker cs) d p →
      slice_get cs n ≡ Some c →
      Keeps ts k marker cs n c
  -- addition n of an enumeration has a number above those of the earlier additions
  pub item : (root : List WrittenItem) (more : Option (List WrittenItem)) (d : TagDefault) (p : Option (ℕ × ℕ)) →
      IsWrittenType ts i (simple (an_enumerated root more)) d p →
      IsAboveEarlier (addition_numbers root (additions_of more)) n

-- all members of lists and all additions of enumerations in a table are as extension markers require
abbrev pub KeepAdditions : List Type' → Type 0
KeepAdditions ts = (i n : ℕ) → KeepsAt ts i n

-- ---- how a requirement is broken

-- member n is in version brackets that ended before it
pub record IsParted (cs : List Part) (n : ℕ) : Type 0 where
  pub group : ℕ
  pub member : Part
  pub there : slice_get cs n ≡ Some member
  pub of_group : IsInGroup group member
  pub one : ℕ
  pub other : ℕ
  pub in_turn : one < other
  pub before : other < n
  pub within : Part
  pub at_one : slice_get cs one ≡ Some within
  pub within_group : IsInGroup group within
  pub outside : Part
  pub at_other : slice_get cs other ≡ Some outside
  pub left : IsInGroup group outside → ⊥

-- member n of the list is at a place that isn't allowed
pub data IsMisplaced (marker : Bool) (cs : List Part) (n : ℕ) : Type 0 where
  -- the member is an addition, and the list has no marker
  unmarked : (c : Part) → slice_get cs n ≡ Some c → IsAdded c → marker ≡ false → IsMisplaced marker cs n
  -- the member is one of the root, and comes after an addition
  after_addition : (m : ℕ) (c d : Part) →
      slice_get cs n ≡ Some c →
      m < n →
      slice_get cs m ≡ Some d →
      IsAdded d →
      (IsAdded c → ⊥) →
      IsMisplaced marker cs n
  out_of_brackets : IsParted cs n → IsMisplaced marker cs n

-- member n is an addition with a DEFAULT
pub record IsDefaultAddition (cs : List Part) (n : ℕ) : Type 0 where
  pub member : Part
  pub there : slice_get cs n ≡ Some member
  pub added : IsAdded member
  pub has_value : has_default member.presence ≡ true

-- Member n is an addition. One of its first tags doesn't come after a first tag of an earlier addition, in the
-- canonical order.
pub record IsTagOutOfOrder (ts : List Type') (cs : List Part) (n : ℕ) : Type 0 where
  pub member : Part
  pub there : slice_get cs n ≡ Some member
  pub added : IsAdded member
  pub place : ℕ
  pub before : place < n
  pub earlier : Part
  pub is_so : slice_get cs place ≡ Some earlier
  pub earlier_added : IsAdded earlier
  pub first : Label
  pub of_earlier : CanBeFirst ts earlier.ty first
  pub second : Label
  pub of_member : CanBeFirst ts member.ty second
  pub not_before : LabelBefore first second → ⊥

-- member n is at an allowed place
abbrev pub IsPlacedAt : Bool → List Part → ℕ → Type 0
IsPlacedAt marker cs n = (c : Part) → slice_get cs n ≡ Some c → IsPlaced marker cs n c

-- member n isn't an addition with a DEFAULT
abbrev pub HasNoDefaultAt : List Part → ℕ → Type 0
HasNoDefaultAt cs n = (c : Part) → slice_get cs n ≡ Some c → IsAdded c → has_default c.presence ≡ false

-- Member n of a list breaks this rule, and no rule that is checked before it: first that of its place, then of its
-- DEFAULT, then of its order.
abbrev pub BreaksIn : List Type' → Rule → ListKind → Bool → List Part → ℕ → Type 0
BreaksIn ts MarkerPlace k marker cs n = IsMisplaced marker cs n
BreaksIn ts DefaultAddition k marker cs n = IsDefaultAddition cs n × IsPlacedAt marker cs n
BreaksIn ts AdditionOrder k marker cs n =
    (k ≡ Choice) × IsTagOutOfOrder ts cs n × IsPlacedAt marker cs n × HasNoDefaultAt cs n

-- the number at place n isn't greater than an earlier one
pub record IsNotAbove (zs : List ℤ) (n : ℕ) : Type 0 where
  pub place : ℕ
  pub before : place < n
  pub earlier : ℤ
  pub number : ℤ
  pub is_so : slice_get zs place ≡ Some earlier
  pub there : slice_get zs n ≡ Some number
  pub falls : number ≤ℤ earlier

-- place n of type i breaks the rule: member n of the list breaks it, or the number of addition n of the enumeration
pub data Breaks (ts : List Type') : Rule → ℕ → ℕ → Type 0 where
  in_list : {r : Rule} {i n : ℕ} (k : ListKind) (marker : Bool) (cs : List Part) (d : TagDefault) (p : Option (ℕ × ℕ)) →
      IsWrittenType ts i (members k marker cs) d p →
      BreaksIn ts r k marker cs n →
      Breaks ts r i n
  in_items : {i n : ℕ} (root : List WrittenItem) (more : Option (List WrittenItem)) (d : TagDefault) (p : Option
      (ℕ × ℕ)) →
      IsWrittenType ts i (simple (an_enumerated root more)) d p →
      IsNotAbove (addition_numbers root (additions_of more)) n →
      Breaks ts AdditionOrder i n

-- type i breaks the rule at a place; no earlier place of it, and no type before it, breaks any rule
pub record IsFirstBreak (ts : List Type') (r : Rule) (i : ℕ) : Type 0 where
  pub number : ℕ
  pub breaks : Breaks ts r i number
  pub places_before : (n : ℕ) → n < number → KeepsAt ts i n
  pub types_before : (j n : ℕ) → j < i → KeepsAt ts j n
