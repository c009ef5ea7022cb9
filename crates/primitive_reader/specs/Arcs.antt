-- A number in septets at the start of octets (X.690, 8.19.2).
use Rattle.std.specs.Prelude.{◌≡◌, ℕ, ◌+◌, ◌≤◌, ◌^◌, ◌++◌, Option, Some, None}
use Rattle.encodings.specs.Header.{Octets, septets}

-- Some is the number n; None says that n is greater than any number of an OBJECT IDENTIFIER can be
abbrev pub IsArcOf : Option ℕ → ℕ → Type 0
IsArcOf (Some m) n = m ≡ n
IsArcOf None n = 2 ^ 64 + 80 ≤ n

-- a number in septets at the start, and what follows it
pub record Front (arc : Option ℕ) (rest o : Octets) : Type 0 where
  pub number : ℕ
  pub is_arc : IsArcOf arc number
  pub whole : o ≡ septets number ++ rest
