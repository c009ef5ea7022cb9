-- What the single checks of names return.
use Rattle.std.specs.Prelude.{◌≡◌, ◌<◌, ℕ, suc, true, false, List, Option, Some, None, MatchOption, slice_get, take}
use Rattle.trees.specs.declared.types.Standing.{Standing}
use Rattle.trees.specs.declared.types.Standing.TheVariants.{Root, Addition}
use Rattle.trees.specs.Types.{PresenceTree, mandatory, optional, default}
use Rattle.trees.specs.Values.{Name}
use Rattle.names.specs.Modules.{OccursIn, AreDifferent}
use Rattle.type_table.specs.Table.{Part}
use Rattle.value_notations.specs.Notations.{IsPartOf, may_lack_value}
use Rattle.value_notations.specs.Wrong.{AreIn, IsBefore}

abbrev pub IsUnknownAt : (parts fields : List Name) → Option ℕ → Type 0
IsUnknownAt cs fs o =
    MatchOption o
    (AreIn fs cs)
    (λ i. (x : Name) × (slice_get fs i ≡ Some x) × (OccursIn cs x → ⊥) × AreIn (take i fs) cs)

abbrev pub IsRepeatedAt : List Name → Option ℕ → Type 0
IsRepeatedAt fs o =
    MatchOption o
    (AreDifferent fs)
    (λ i. (x : Name) × (slice_get fs i ≡ Some x) × OccursIn (take i fs) x × AreDifferent (take i fs))

-- component i is c, and has no field
pub record IsAbsent (cs : List Part) (places : List (Option ℕ)) (i : ℕ) (c : Part) : Type 0 where
  pub there : slice_get cs i ≡ Some c
  pub none : slice_get places i ≡ Some None

-- none of the first i components is missing
abbrev pub NoneMissing : List Part → List (Option ℕ) → ℕ → Type 0
NoneMissing cs ps i = (k : ℕ) → k < i → (c : Part) → IsAbsent cs ps k c → may_lack_value c ≡ true

abbrev pub IsMissingAt : List Part → List (Option ℕ) → Option ℕ → Type 0
IsMissingAt cs ps o =
    MatchOption o
    ((i : ℕ) (c : Part) → IsAbsent cs ps i c → may_lack_value c ≡ true)
    (λ i. (c : Part) × IsAbsent cs ps i c × (may_lack_value c ≡ false) × NoneMissing cs ps i)

abbrev pub group_in : Standing → Option ℕ
group_in Root = None
group_in (Addition g) = g

-- the group of an addition that must be present if another one of the group is
abbrev pub needed_in : PresenceTree → Standing → Option ℕ
needed_in mandatory s = group_in s
needed_in optional s = None
needed_in (default d) s = None

-- an addition of group g has a field
pub record HasOther (g : ℕ) (cs : List Part) (places : List (Option ℕ)) : Type 0 where
  pub place : ℕ
  pub part : Part
  pub field : ℕ
  pub there : slice_get cs place ≡ Some part
  pub present : slice_get places place ≡ Some (Some field)
  pub grouped : group_in part.standing ≡ Some g

-- component c must be present, since another one of its group is
pub record IsDue (c : Part) (cs : List Part) (places : List (Option ℕ)) : Type 0 where
  pub group : ℕ
  pub needed : needed_in c.presence c.standing ≡ Some group
  pub other : HasOther group cs places

-- none of the first i components is an absent one that must be present
abbrev pub NoneDue : List Part → List (Option ℕ) → ℕ → Type 0
NoneDue cs ps i = (k : ℕ) → k < i → (c : Part) → IsAbsent cs ps k c → IsDue c cs ps → ⊥

abbrev pub IsMissingInGroupAt : List Part → List (Option ℕ) → Option ℕ → Type 0
IsMissingInGroupAt cs ps o =
    MatchOption o
    ((i : ℕ) (c : Part) → IsAbsent cs ps i c → IsDue c cs ps → ⊥)
    (λ i. (c : Part) × IsAbsent cs ps i c × IsDue c cs ps × NoneDue cs ps i)

-- the name at place i must come before the name directly before it
pub record IsJumbled (cs fs : List Name) (i : ℕ) : Type 0 where
  pub before : ℕ
  pub next : i ≡ suc before
  pub name : Name
  pub other : Name
  pub there : slice_get fs i ≡ Some name
  pub other_there : slice_get fs before ≡ Some other
  pub turned : IsBefore cs name other

abbrev pub IsJumbledAt : (parts fields : List Name) → Option ℕ → Type 0
IsJumbledAt cs fs o = MatchOption o (IsPartOf fs cs) (λ i. IsJumbled cs fs i × IsPartOf (take i fs) cs)
