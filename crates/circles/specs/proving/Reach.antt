-- Which types the components with a DEFAULT lead to, and the marks that a search leaves.
use Rattle.std.specs.Prelude.{◌≡◌, ◌<◌, ◌≤◌, ◌⊎◌, ◌+◌, ◌==◌, ℕ, cond, List, [], Some, ◌∷◌, length, slice_get}
use Rattle.type_table.specs.trees.Types.{PresenceTree, mandatory, optional, default}
use Rattle.type_table.specs.names.Modules.{OccursIn}
use Rattle.type_table.specs.Table.{Part, Type'}
use Rattle.circles.specs.Circles.{IsPart, Reaches}

-- all types that the types contain or refer to are types of the table
abbrev pub HasParts : List Type' → Type 0
HasParts ts = (i k : ℕ) (t : Type') → slice_get ts i ≡ Some t → IsPart k t.kind → k < length ts

abbrev pub IsDefault : PresenceTree → Type 0
IsDefault mandatory = ⊥
IsDefault optional = ⊥
IsDefault (default v) = Unit {0}

-- the component has a DEFAULT
abbrev pub HasDefault : Part → Type 0
HasDefault c = IsDefault c.presence

-- type j is that of a component with a DEFAULT
pub record IsDefaulted (components : List Part) (j : ℕ) : Type 0 where
  pub number : ℕ
  pub component : Part
  pub held : slice_get components number ≡ Some component
  pub defaulted : HasDefault component
  pub ty : component.ty ≡ j

-- a component with a DEFAULT leads to type j
pub record DefaultPath (ts : List Type') (components : List Part) (j : ℕ) : Type 0 where
  pub from : ℕ
  pub defaulted : IsDefaulted components from
  pub reaches : Reaches ts from j

-- ---- marks

-- in search s type j is marked
abbrev pub IsMarked : ℕ → List ℕ → ℕ → Type 0
IsMarked s marks j = slice_get marks j ≡ Some s

-- each mark is that of search s or of an earlier search
abbrev pub AreUpTo : ℕ → List ℕ → Type 0
AreUpTo s marks = (j n : ℕ) → slice_get marks j ≡ Some n → n ≤ s

-- the number of types that aren't marked in search s
abbrev pub unmarked : ℕ → List ℕ → ℕ
unmarked s [] = 0
unmarked s (n ∷ marks) = cond (n == s) 0 1 + unmarked s marks

-- All types for which Q holds are marked now. Those that weren't marked before are added to the list of waiting types.
pub record Marks (s : ℕ) (Q : ℕ → Type 0) (marks marks' waiting waiting' : List ℕ) : Type 0 where
  pub long : length marks' ≡ length marks
  pub all : (j : ℕ) → Q j → IsMarked s marks' j
  pub kept : (j : ℕ) → IsMarked s marks j → IsMarked s marks' j
  pub only : (j : ℕ) → IsMarked s marks' j → IsMarked s marks j ⊎ (Q j × OccursIn waiting' j)
  pub others : (j n : ℕ) → slice_get marks' j ≡ Some n → slice_get marks j ≡ Some n ⊎ (n ≡ s)
  pub wait : (j : ℕ) → OccursIn waiting j → OccursIn waiting' j
  pub marked : ((j : ℕ) → OccursIn waiting j → IsMarked s marks j) → (j : ℕ) → OccursIn waiting' j → IsMarked s marks' j
  -- a type is marked exactly when it is added to the list
  pub count : unmarked s marks' + length waiting' ≡ unmarked s marks + length waiting

-- exactly the types that the types marked before lead to are marked now
pub record MarksReached (ts : List Type') (s : ℕ) (marks marks' : List ℕ) : Type 0 where
  pub long : length marks' ≡ length marks
  pub kept : (j : ℕ) → IsMarked s marks j → IsMarked s marks' j
  pub closed : (i k : ℕ) (t : Type') →
      IsMarked s marks' i →
      slice_get ts i ≡ Some t →
      IsPart k t.kind →
      IsMarked s marks' k
  pub only : (j : ℕ) → IsMarked s marks' j → (i : ℕ) × IsMarked s marks i × Reaches ts i j
  pub others : (j n : ℕ) → slice_get marks' j ≡ Some n → slice_get marks j ≡ Some n ⊎ (n ≡ s)
