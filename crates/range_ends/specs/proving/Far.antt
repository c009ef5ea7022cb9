-- The values that long chains of references lead to.
use Rattle.std.specs.Prelude.{◌≡◌, ◌⊎◌, ◌≤◌, ℕ, List, Option, Some, None, length, slice_get}
use Rattle.type_table.specs.Walks.{follow}
use Rattle.type_table.specs.Table.{WrittenKind}
use Rattle.trees.specs.Values.{Name}
use Rattle.range_ends.specs.Ends.{named}
use Rattle.range_ends.specs.proving.Steps.{listed}

-- value i leads to value c in n steps or more, or in fewer if c refers to no value
pub record IsFar (os : List (Option ℕ)) (n i c : ℕ) : Type 0 where
  pub steps : ℕ
  pub chain : follow (listed os) steps i ≡ Some c
  pub far : (listed os c ≡ None) ⊎ (n ≤ steps)

-- the list has such a value c for each value i
pub record AreFar (os : List (Option ℕ)) (n : ℕ) (cs : List ℕ) : Type 0 where
  pub all : length cs ≡ length os
  pub each : (i c : ℕ) → slice_get cs i ≡ Some c → IsFar os n i c

-- the type has no named number
abbrev pub IsNameless : WrittenKind → Type 0
IsNameless k = (q : Option Name) (x : Name) → named k q x ≡ None
