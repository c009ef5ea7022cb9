-- What is found at the end of the references of a value.
use Rattle.std.specs.Prelude.{◌≡◌, ℕ, ℤ, List, Option, Some, None}
use Rattle.type_table.specs.Table.{WrittenKind}
use Rattle.resolve.specs.Program.{Program}
use Rattle.range_ends.specs.declared.ends.EndFault.{EndFault}
use Rattle.range_ends.specs.declared.ends.EndFault.TheVariants as ends
use Rattle.range_ends.specs.proving.Steps.{next, number_at, listed}
use Rattle.type_table.specs.Walks.{EndsAt}
use Rattle.range_ends.specs.proving.Turning.{IsFirstBack}

-- the references of value i end at number z
pub record Ends (p : Program) (k : WrittenKind) (os : List (Option ℕ)) (i : ℕ) (z : ℤ) : Type 0 where
  pub last : ℕ
  pub way : EndsAt (next p k os) i last
  pub number_is : number_at p k last ≡ Some z

-- the references of value i end at a value that is no number and refers to no value
pub record EndsWithout (p : Program) (k : WrittenKind) (os : List (Option ℕ)) (i : ℕ) : Type 0 where
  pub last : ℕ
  pub way : EndsAt (next p k os) i last
  pub number_is : number_at p k last ≡ None
  pub alone : listed os last ≡ None

-- the references of value i come into a circle, and v is the first value in it
abbrev pub Turns : Program → WrittenKind → List (Option ℕ) → ℕ → ℕ → Type 0
Turns p k os i v = IsFirstBack (next p k os) i v

abbrev pub IsWayFault : Program → WrittenKind → List (Option ℕ) → ℕ → EndFault → Type 0
IsWayFault p k os i ends.NoMeaning = EndsWithout p k os i
IsWayFault p k os i (ends.Circular v) = Turns p k os i v
