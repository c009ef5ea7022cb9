-- Written types, which refer to one another by number, and their unfolding (X.680, clause 16).
use Rattle.std.specs.Prelude.{◌≡◌, ℕ, zero, suc, ◌<◌, Bool, List, Option, Some, None, length, slice_get, All}
use Rattle.asn_base.specs.declared.tag.Tag.{Tag}
use Rattle.trees.specs.declared.types.ListKind.{ListKind}
use Rattle.trees.specs.declared.types.ElementsKind.{ElementsKind}
use Rattle.trees.specs.declared.types.Keyword.{Keyword}
use Rattle.trees.specs.declared.types.Standing.{Standing}
use Rattle.trees.specs.declared.module.TagDefault.{TagDefault}
use Rattle.trees.specs.Values.{Name}
use Rattle.trees.specs.Constraints.{ConstraintTree}
use Rattle.trees.specs.Types.{PresenceTree, Plain}
use Rattle.type_table.specs.Walks.{follow, ComesBack, IsWithin}

-- a member of a list: its identifier, the number of its type, whether it may be absent, and whether it is in the root
pub record Part : Type 0 where
  pub name : Name
  pub ty : ℕ
  pub presence : PresenceTree
  pub standing : Standing

-- the kind of a written type, in which the types directly in it are given by their numbers
pub data WrittenKind : Type 0 where
  simple : Plain → WrittenKind
  reference : ℕ → WrittenKind
  tagged : Tag → Keyword → ℕ → WrittenKind
  -- the kind of the list, whether it has an extension marker, and its members
  members : ListKind → Bool → List Part → WrittenKind
  elements : ElementsKind → ℕ → WrittenKind

-- A written type: its kind, the constraints after it, the tag default of its module, and the number of its assignment.
-- If it is a member, its place is the number of its list and its place there.
pub record Type' : Type 0 where
  pub kind : WrittenKind
  pub constraints : List ConstraintTree
  pub default : TagDefault
  pub place : Option (ℕ × ℕ)
  pub assignment : ℕ

-- the type that a type of this kind leads to, if it is a reference or a tag
abbrev pub target : WrittenKind → Option ℕ
target (reference j) = Some j
target (tagged t k j) = Some j
target k = None

-- the type that a type leads to, or None if there is no type or it leads to none
abbrev pub target_of : Option Type' → Option ℕ
target_of None = None
target_of (Some t) = target t.kind

-- the type that type i leads to, if that is a reference or a tag
abbrev pub next : List Type' → ℕ → Option ℕ
next ts i = target_of (slice_get ts i)

-- the type after k references and tags from type i on
abbrev pub walk : List Type' → ℕ → ℕ → Option ℕ
walk ts k i = follow (next ts) k i

-- type c, which is neither a reference nor a tag, is the core of type i
pub record IsUnderlying (ts : List Type') (i c : ℕ) : Type 0 where
  pub steps : ℕ
  pub few : steps < length ts
  pub chain : walk ts steps i ≡ Some c
  pub ends : next ts c ≡ None

-- type i comes back to itself
abbrev pub IsCircular : List Type' → ℕ → Type 0
IsCircular ts i = ComesBack (next ts) i

-- each reference and each tag leads to a type of the table
abbrev pub IsClosed : List Type' → Type 0
IsClosed ts = IsWithin (next ts) (length ts)

-- each type unfolds to a core
abbrev pub AllUnfold : List Type' → Type 0
AllUnfold ts = (i : ℕ) → i < length ts → (c : ℕ) × IsUnderlying ts i c

-- type i of the table has this kind, this tag default and this place in a list
pub record IsWrittenType (ts : List Type') (i : ℕ) (k : WrittenKind) (d : TagDefault) (p : Option
    (ℕ × ℕ)) : Type 0 where
  pub constraints : List ConstraintTree
  pub assignment : ℕ
  pub found :
      slice_get ts i
      ≡ Some (record { kind = k; constraints = constraints; default = d; place = p; assignment = assignment })

-- the types of the members of each list are types of the table
abbrev pub HasMembers : List Type' → Type 0
HasMembers ts = (i : ℕ) (l : ListKind) (m : Bool) (cs : List Part) (d : TagDefault) (p : Option (ℕ × ℕ)) →
    IsWrittenType ts i (members l m cs) d p →
    All (λ c. c.ty < length ts) cs

-- the type of the elements of each SEQUENCE OF and SET OF is a type of the table
abbrev pub HasElements : List Type' → Type 0
HasElements ts = (i j : ℕ) (e : ElementsKind) (d : TagDefault) (p : Option (ℕ × ℕ)) →
    IsWrittenType ts i (elements e j) d p →
    j < length ts

-- each member of a list has the number of that list and its place there, so it is a member of only one list
abbrev pub HasPlaces : List Type' → Type 0
HasPlaces ts = (i n : ℕ) (l : ListKind) (m : Bool) (cs : List Part) (d : TagDefault) (p : Option (ℕ × ℕ)) (c : Part) →
    IsWrittenType ts i (members l m cs) d p →
    slice_get cs n ≡ Some c →
    (k : WrittenKind) × IsWrittenType ts c.ty k d (Some (i, n))

-- type j is member n of the list that type i is
pub record IsMember (ts : List Type') (i n j : ℕ) (d : TagDefault) : Type 0 where
  pub list : ListKind
  pub marker : Bool
  pub parts : List Part
  pub place : Option (ℕ × ℕ)
  pub part : Part
  pub is : IsWrittenType ts i (members list marker parts) d place
  pub there : slice_get parts n ≡ Some part
  pub type_is : part.ty ≡ j

-- a type with a place in a list is the member at that place
abbrev pub HasLists : List Type' → Type 0
HasLists ts = (j i n : ℕ) (k : WrittenKind) (d : TagDefault) →
    IsWrittenType ts j k d (Some (i, n)) →
    IsMember ts i n j d

-- the properties of a table of linked types
pub record IsLinked (ts : List Type') : Type 0 where
  pub closed : IsClosed ts
  pub unfolds : AllUnfold ts
  pub parts : HasMembers ts
  pub inner : HasElements ts
  pub places : HasPlaces ts
  pub lists : HasLists ts
