-- Types whose values are judged leaf by leaf: a value of the type's shape is one of the type if the values in it that
-- hold no others are of their types, and the lists that must not be empty are not.
use Rattle.std.specs.Prelude.{◌≡◌, ℕ, zero, suc, ◌≤◌, pos, Bool, true, List, ◌++◌, Some, None, slice_get}
use Rattle.std.specs.List.{AllByRecursion}
use Rattle.asn_base.specs.Decided.{IsFlat}
use Rattle.asn_base.specs.Typed.{IsAllowedSize, IsInRange, IsInSome}
use Rattle.asn_base.specs.Types.{Range, Constraint, Presence, mandatory, optional, default, addition, Kind, a_sequence, a_set}
use Rattle.asn_base.specs.Types.{a_sequence_of, a_set_of, a_choice, Resolved}

-- the constraint allows every size except, perhaps, 0
abbrev pub AllowsAnySome : Constraint → Type 0
AllowsAnySome c = (n : ℕ) → 1 ≤ n → IsAllowedSize c n

-- the range has every number from 1 on
abbrev pub HasAllFromOne : Range → Type 0
HasAllFromOne r = (n : ℕ) → 1 ≤ n → IsInRange (pos n) r

-- the ranges have every number from 1 on
abbrev pub HaveAllFromOne : List Range → Type 0
HaveAllFromOne rs = (n : ℕ) → 1 ≤ n → IsInSome (pos n) rs

-- a component of this presence is in no version brackets, and its DEFAULT, if it has one, holds no other values
abbrev pub IsEasy : Presence → Type 0
IsEasy mandatory = Unit {0}
IsEasy optional = Unit {0}
IsEasy (default d) = IsFlat d
IsEasy (addition o g) = g ≡ None

-- values of the kind are judged leaf by leaf if `P` holds for the types of their members
abbrev pub KindByLeaves : (ℕ → Type 0) → Kind → Type 0
KindByLeaves P (a_sequence e cs) = AllByRecursion (λ c. P c.type × IsEasy c.presence) cs
KindByLeaves P (a_set e cs) = AllByRecursion (λ c. P c.type × IsEasy c.presence) cs
KindByLeaves P (a_sequence_of c u) = P u × AllowsAnySome c
KindByLeaves P (a_set_of c u) = P u × AllowsAnySome c
KindByLeaves P (a_choice root e more) = AllByRecursion (λ a. P a.type) (root ++ more)
KindByLeaves P k = Unit {0}

-- values of each type with a mark are judged leaf by leaf if those of each type with a mark before are
abbrev pub AreNextMarks : List Resolved → List Bool → List Bool → Type 0
AreNextMarks s before bs = (t : ℕ)
    → slice_get bs t ≡ Some true
    → (r : Resolved) × (slice_get s t ≡ Some r) × KindByLeaves (λ u. slice_get before u ≡ Some true) r.kind

-- values of type t are judged leaf by leaf, and have at most n levels
abbrev pub ByLeaves : List Resolved → ℕ → ℕ → Type 0
ByLeaves s zero t = ⊥
ByLeaves s (suc n) t = (r : Resolved) × (slice_get s t ≡ Some r) × KindByLeaves (ByLeaves s n) r.kind

-- values of type t are judged leaf by leaf, and have at most 64 levels
pub record IsByLeaves (s : List Resolved) (t : ℕ) : Type 0 where
  pub levels : ℕ
  pub few : levels ≤ 64
  pub by : ByLeaves s levels t

-- each type with a mark is judged leaf by leaf, and its values have at most n levels
abbrev pub AreMarksOf : List Resolved → ℕ → List Bool → Type 0
AreMarksOf s n bs = (t : ℕ) → slice_get bs t ≡ Some true → ByLeaves s n t

-- each type with a mark is judged leaf by leaf
abbrev pub AreMarks : List Resolved → List Bool → Type 0
AreMarks s bs = (t : ℕ) → slice_get bs t ≡ Some true → IsByLeaves s t
