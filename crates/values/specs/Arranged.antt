-- When the names of fields in braces are arranged like those of components (X.680, clauses 25.18, 25.19 and 27.3),
-- which field each component has, and what faults say.
use Rattle.std.specs.Prelude.{◌≡◌, ◌<◌, ℕ, suc, List, [], ◌∷◌, Option, Some, None, cond, map, option_map, bytes_eq, slice_get, take}
use Rattle.trees.specs.declared.types.ListKind.{ListKind}
use Rattle.trees.specs.Values.{Name}
use Rattle.names.specs.Modules.{OccursIn, AreDifferent}
use Rattle.type_table.specs.Table.{Part}
use Rattle.value_notations.specs.Notations.{AreArranged, IsPartOf, part_names}
use Rattle.value_notations.specs.Wrong.{AreIn, IsDisarranged, IsMissing, IsMissingInGroup, unknown_item, repeated, missing, out_of_order}
use Rattle.values.specs.declared.arranging.NamesFault.{NamesFault}
use Rattle.values.specs.declared.arranging.NamesFault.TheVariants.{Memory, Unknown, Repeated, Missing, OutOfOrder}

-- the first place of a name
abbrev pub first_place : Name → List Name → Option ℕ
first_place x [] = None
first_place x (y ∷ ys) = cond (bytes_eq x y) (Some 0) (option_map suc (first_place x ys))

-- The names of fields are arranged like those of components, none is missing, and these are the places of the fields,
-- in the order of components.
pub record IsArranged (k : ListKind) (cs : List Part) (fs : List Name) (ps : List (Option ℕ)) : Type 0 where
  pub arranged : AreArranged k (part_names cs) fs
  pub complete : (x : Name) → IsMissing cs fs x → ⊥
  pub whole : (x : Name) → IsMissingInGroup cs fs x → ⊥
  pub placed : ps ≡ map (λ x. first_place x fs) (part_names cs)

-- the name at this place is the first one that no component has
pub record IsWrongField (k : ListKind) (cs : List Part) (fs : List Name) (i : ℕ) : Type 0 where
  pub name : Name
  pub there : slice_get fs i ≡ Some name
  pub wrong : IsDisarranged k cs fs (unknown_item name)
  pub known_before : AreIn (take i fs) (part_names cs)

-- the name at this place is the first one that an earlier field has
pub record IsRepeatedField (k : ListKind) (cs : List Part) (fs : List Name) (i : ℕ) : Type 0 where
  pub name : Name
  pub there : slice_get fs i ≡ Some name
  pub wrong : IsDisarranged k cs fs (repeated name)
  pub again : OccursIn (take i fs) name
  pub distinct_before : AreDifferent (take i fs)

-- P is true of the name of none of the first i components
abbrev pub NoneBefore : (Name → Type 0) → List Part → ℕ → Type 0
NoneBefore P cs i = (j : ℕ) (c : Part) →
    j < i →
    slice_get cs j ≡ Some c →
    P c.name →
    ⊥

-- The component of this name, which is number i, is the first one that is missing. Components of the root are checked
-- first, and then, if none of them is missing, the additions of groups.
pub data IsFirstMissing (cs : List Part) (fs : List Name) (i : ℕ) (x : Name) : Type 0 where
  of_root :
      IsMissing cs fs x →
      NoneBefore (IsMissing cs fs) cs i →
      IsFirstMissing cs fs i x
  of_group :
      ((y : Name) → IsMissing cs fs y → ⊥) →
      IsMissingInGroup cs fs x →
      NoneBefore (IsMissingInGroup cs fs) cs i →
      IsFirstMissing cs fs i x

-- the component at this place is the first one that is missing
pub record IsMissingPart (k : ListKind) (cs : List Part) (fs : List Name) (i : ℕ) : Type 0 where
  pub part : Part
  pub there : slice_get cs i ≡ Some part
  pub wrong : IsDisarranged k cs fs (missing part.name)
  pub first : IsFirstMissing cs fs i part.name

-- the name at this place is the first one that must come before the name directly before it
pub record IsOutOfOrder (k : ListKind) (cs : List Part) (fs : List Name) (i : ℕ) : Type 0 where
  pub before : ℕ
  pub next : i ≡ suc before
  pub name : Name
  pub other : Name
  pub there : slice_get fs i ≡ Some name
  pub other_there : slice_get fs before ≡ Some other
  pub wrong : IsDisarranged k cs fs (out_of_order name other)
  pub ordered_before : IsPartOf (take i fs) (part_names cs)

abbrev pub IsNamesFault : ListKind → List Part → List Name → NamesFault → Type 0
IsNamesFault k cs fs Memory = Unit {0}
IsNamesFault k cs fs (Unknown i) = IsWrongField k cs fs i
IsNamesFault k cs fs (Repeated i) = IsRepeatedField k cs fs i
IsNamesFault k cs fs (Missing i) = IsMissingPart k cs fs i
IsNamesFault k cs fs (OutOfOrder i) = IsOutOfOrder k cs fs i
