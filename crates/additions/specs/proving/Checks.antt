-- The results of the checks of one list, of one type and of all types (X.680, clauses 20, 25, 27 and 29).
use Rattle.std.specs.Prelude.{◌≡◌, ◌<◌, ◌-◌, ℕ, Bool, ℤ, List, Option, Some, None, option_map, slice_get}
use Rattle.trees.specs.declared.module.TagDefault.{TagDefault}
use Rattle.trees.specs.declared.types.ListKind.{ListKind}
use Rattle.type_table.specs.declared.table.ListMember.{ListMember}
use Rattle.type_table.specs.declared.table.Shape.{Shape}
use Rattle.type_table.specs.declared.table.Shape.TheVariants as shapes
use Rattle.trees.specs.declared.types.Simple.TheVariants as simples
use Rattle.trees.specs.declared.types.EnumeratedItem.{EnumeratedItem}
use Rattle.type_table.specs.Table.{Part, Type', members, IsWrittenType}
use Rattle.additions.specs.declared.check.Broken.{Broken}
use Rattle.additions.specs.Additions.{IsAdded, IsTogether, IsPlaced, IsInGroup, Keeps, KeepsAt, BreaksIn, Breaks, IsAboveEarlier, IsNotAbove}

-- type i is a list of this kind
pub record IsListAt (ts : List Type') (i : ℕ) (k : ListKind) (marker : Bool) (cs : List Part) : Type 0 where
  pub default : TagDefault
  pub place : Option (ℕ × ℕ)
  pub is : IsWrittenType ts i (members k marker cs) default place

-- each member before place n is at an allowed place
abbrev pub ArePlacedBefore : Bool → List Part → ℕ → Type 0
ArePlacedBefore marker cs n = (m : ℕ) (d : Part) → m < n → slice_get cs m ≡ Some d → IsPlaced marker cs m d

-- the members of version brackets before place n are adjacent
abbrev pub AreTogetherBefore : List Part → ℕ → Type 0
AreTogetherBefore cs n = (m : ℕ) (d : Part) → m < n → slice_get cs m ≡ Some d → IsTogether cs m d

-- the members before place n are as required
abbrev pub KeepBefore : List Type' → ListKind → Bool → List Part → ℕ → Type 0
KeepBefore ts k marker cs n = (m : ℕ) (d : Part) → m < n → slice_get cs m ≡ Some d → Keeps ts k marker cs m d

-- the member directly before place n is an addition
pub record FollowsAddition (cs : List Part) (n : ℕ) : Type 0 where
  pub positive : 0 < n
  pub member : Part
  pub there : slice_get cs (n - 1) ≡ Some member
  pub added : IsAdded member

-- a member before place n is in version brackets g
pub record IsSeenBefore (cs : List Part) (n g : ℕ) : Type 0 where
  pub place : ℕ
  pub before : place < n
  pub member : Part
  pub there : slice_get cs place ≡ Some member
  pub of_group : IsInGroup g member

-- these are the members of a list of this kind, of which those before place n are as required
pub record IsChecked (ts : List Type') (k : ListKind) (cs : List Part) (n : ℕ) : Type 0 where
  pub list : ℕ
  pub marker : Bool
  pub is : IsListAt ts list k marker cs
  pub keep : KeepBefore ts k marker cs n

-- the numbers before place n ascend
abbrev pub AscendBefore : List ℤ → ℕ → Type 0
AscendBefore zs n = (m : ℕ) → m < n → IsAboveEarlier zs m

-- the first place at which the numbers don't ascend
pub record FallsFirst (zs : List ℤ) (n : ℕ) : Type 0 where
  pub falls : IsNotAbove zs n
  pub before : AscendBefore zs n

-- type i breaks a rule first at this place
pub record BreaksFirst (ts : List Type') (i : ℕ) (b : Broken) : Type 0 where
  pub breaks : Breaks ts b.rule i b.place
  pub before : (n : ℕ) → n < b.place → KeepsAt ts i n

-- a list breaks a rule first at this place
pub record BreaksListFirst (ts : List Type') (k : ListKind) (marker : Bool) (cs : List Part) (b : Broken) : Type 0 where
  pub breaks : BreaksIn ts b.rule k marker cs b.place
  pub before : KeepBefore ts k marker cs b.place

-- the name of addition n of an enumeration is written at this place
abbrev pub IsItemAt : Option (List EnumeratedItem) → ℕ → ℕ → Type 0
IsItemAt None n at = ⊥
IsItemAt (Some is) n at = (i : EnumeratedItem) × (slice_get is n ≡ Some i) × (i.name.at ≡ at)

-- the name of member n is written at this place
abbrev pub IsMemberAt : List ListMember → ℕ → ℕ → Type 0
IsMemberAt cs n at = (c : ListMember) × (slice_get cs n ≡ Some c) × (c.name.at ≡ at)

-- the name of member n, or of addition n of an enumeration, is written at this place of the text
abbrev pub IsNamedAt : Shape → ℕ → ℕ → Type 0
IsNamedAt (shapes.Members k m cs) n at = IsMemberAt cs.items n at
IsNamedAt (shapes.Simple (simples.Enumerated e)) n at = IsItemAt (option_map (λ is. is.items) e.value.additions) n at
IsNamedAt s n at = ⊥
