-- The types that types contain, as rows of numbers; which types are reached; marks and ranks.
use Rattle.std.specs.Prelude.{◌≡◌, ◌<◌, ◌≤◌, ◌⊎◌, ◌+◌, ◌==◌, ℕ, Bool, true, false, cond, if◌then◌else◌, List, [], ◌∷◌, map}
use Rattle.std.specs.Prelude.{Some, length, slice_get, slice_index}
use Rattle.std.specs.List.{AllByRecursion}
use Rattle.asn_base.specs.Names.{IsMember}
use Rattle.asn_base.specs.Types.{mandatory, optional, default, addition, Component, Resolved}
use Rattle.asn_base.specs.Schemas.{types_in, components}
use Rattle.asn_base.specs.Depths.{row_at}

-- the types that each type directly contains
abbrev pub parts_of : List Resolved → List (List ℕ)
parts_of = map (λ r. types_in r.kind)

abbrev pub has_default : Component → Bool
has_default c = elim c.presence [ mandatory ↦ false | optional ↦ false | default d ↦ true | addition o g ↦ false ]

-- the types of the components with a DEFAULT
abbrev pub default_types : List Component → List ℕ
default_types [] = []
default_types (c ∷ cs) = if has_default c then c.type ∷ default_types cs else default_types cs

abbrev pub defaults_of : List Resolved → List (List ℕ)
defaults_of = map (λ r. default_types (components r.kind))

-- row i leads to number j
pub data Reaches (g : List (List ℕ)) (j : ℕ) : ℕ → Type 0 where
  itself : Reaches g j j
  onward : {i k : ℕ} → IsMember k (row_at g i) → Reaches g j k → Reaches g j i

-- a number of the row leads to number j
abbrev pub RowReaches : List (List ℕ) → List ℕ → ℕ → Type 0
RowReaches g row j = (i : ℕ) × IsMember i row × Reaches g j i

-- each number in a row has a row
abbrev pub IsClosed : List (List ℕ) → Type 0
IsClosed g = (i j : ℕ) → IsMember j (row_at g i) → j < length g

-- ---- marks

abbrev pub OccursIn : List ℕ → ℕ → Type 0
OccursIn xs x = (i : ℕ) × (slice_get xs i ≡ Some x)

abbrev pub IsMarked : List ℕ → ℕ → Type 0
IsMarked marks j = slice_get marks j ≡ Some 1

-- how many aren't marked
abbrev pub unmarked : List ℕ → ℕ
unmarked [] = 0
unmarked (n ∷ marks) = cond (n == 1) 0 1 + unmarked marks

-- All numbers for which Q holds are marked now. Those that weren't marked before are added to those that wait.
pub record Marks (Q : ℕ → Type 0) (marks marks' waiting waiting' : List ℕ) : Type 0 where
  pub long : length marks' ≡ length marks
  pub all : (j : ℕ) → Q j → IsMarked marks' j
  pub kept : (j : ℕ) → IsMarked marks j → IsMarked marks' j
  pub only : (j : ℕ) → IsMarked marks' j → IsMarked marks j ⊎ (Q j × OccursIn waiting' j)
  pub wait : (j : ℕ) → OccursIn waiting j → OccursIn waiting' j
  pub marked : ((j : ℕ) → OccursIn waiting j → IsMarked marks j) → (j : ℕ) → OccursIn waiting' j → IsMarked marks' j
  pub count : unmarked marks' + length waiting' ≡ unmarked marks + length waiting

-- exactly what the numbers marked before lead to is marked now
pub record MarksReached (g : List (List ℕ)) (marks marks' : List ℕ) : Type 0 where
  pub long : length marks' ≡ length marks
  pub kept : (j : ℕ) → IsMarked marks j → IsMarked marks' j
  pub closed : (i k : ℕ) → IsMarked marks' i → IsMember k (row_at g i) → IsMarked marks' k
  pub only : (j : ℕ) → IsMarked marks' j → (i : ℕ) × IsMarked marks i × Reaches g j i

-- ---- ranks

-- no number in the row has a rank below r
abbrev pub AreFrom : ℕ → List ℕ → List ℕ → Type 0
AreFrom r ranks row = AllByRecursion (λ j. r ≤ slice_index ranks j) row

-- each number in the row has a rank above r
abbrev pub AreAbove : ℕ → List ℕ → List ℕ → Type 0
AreAbove r ranks row = AllByRecursion (λ j. r < slice_index ranks j) row

-- no number in a row has a lower rank than the row
abbrev pub Rise : List (List ℕ) → List ℕ → Type 0
Rise g ranks = (i : ℕ) → AreFrom (slice_index ranks i) ranks (row_at g i)
