-- The outermost tag of a type, and those of a list's members.
use Rattle.std.specs.Prelude.{◌≡◌, ℕ, List, [], ◌∷◌, Option, Some, None, slice_get, Contains}
use Rattle.type_table.specs.Table.{Part, Type', WrittenKind, members}
use Rattle.tagging.specs.declared.first.FirstTagFault.{FirstTagFault}
use Rattle.tagging.specs.declared.first.FirstTagFault.TheVariants.{Memory, Untagged}
use Rattle.tagging.specs.Tags.{Label, Path, outermost, Tags}
use Rattle.tagging.specs.First.{CanBeFirst}
use Rattle.tagging.specs.Tagged.{IsUntagged}

-- the outermost tag of type i, or None if it has no tag
pub record Head (ts : List Type') (i : ℕ) (o : Option Label) : Type 0 where
  pub path : Path
  pub tags : Tags ts i path
  pub is : o ≡ outermost path

-- the outermost tags of the members, one each
pub data Fronts (ts : List Type') : List Part → List Label → Type 0 where
  none : Fronts ts [] []
  front : {c : Part} {t : Label} {cs : List Part} {us : List Label} →
      Head ts c.ty (Some t) →
      Fronts ts cs us →
      Fronts ts (c ∷ cs) (t ∷ us)

-- these are the tags that can be first in type i
pub record AreFirst (ts : List Type') (i : ℕ) (us : List Label) : Type 0 where
  pub each : (t : Label) → Contains us t → CanBeFirst ts i t
  pub all : (t : Label) → CanBeFirst ts i t → Contains us t

-- a member that is an untagged CHOICE, or memory that ran out
abbrev pub IsFrontFault : List Type' → List Part → FirstTagFault → Type 0
IsFrontFault ts cs Memory = Unit {0}
IsFrontFault ts cs (Untagged i at) =
    (n : ℕ) × (c : Part) × (slice_get cs n ≡ Some c) × (c.ty ≡ i) × Head ts i None

abbrev pub members_of : WrittenKind → List Part
members_of (members k m cs) = cs
members_of k = []

-- memory ran out, or the type is an untagged CHOICE in a place where it must not be one
abbrev pub IsFirstFault : List Type' → FirstTagFault → Type 0
IsFirstFault ts Memory = Unit {0}
IsFirstFault ts (Untagged i at) = IsUntagged ts i
