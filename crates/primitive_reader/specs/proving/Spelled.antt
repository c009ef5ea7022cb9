-- Numbers in septets at the start of octets.
use Rattle.std.specs.Prelude.{◌≡◌, ℕ, ◌<◌, ◌^◌, List, ◌++◌, length, flat_map, Option}
use Rattle.std.specs.Prelude.{Bool, true, false}
use Rattle.std.specs.List.{AllByRecursion}
use Rattle.encodings.specs.Header.{Octets, septets}
use Rattle.primitive_reader.specs.Arcs.{IsArcOf}
use Rattle.encodings.specs.proving.Septets.{Septets}

-- a number in septets, the first of which, worth `high`, were read already, and what follows it
pub record SeptetsAfter (high : ℕ) (arc : Option ℕ) (rest o : Octets) : Type 0 where
  pub number : ℕ
  pub is_arc : IsArcOf arc number
  pub septets : Septets high o number rest

-- each number is below 2^64
abbrev pub AreSmall : List ℕ → Type 0
AreSmall = AllByRecursion (λ n. n < 2 ^ 64)

-- the truth value says whether each number is below 2^64
abbrev pub IsJudged : Bool → List ℕ → Type 0
IsJudged true ns = AreSmall ns
IsJudged false ns = AreSmall ns → ⊥

-- octets begin with `count` numbers, and `small` says whether each is below 2^64; then what follows them
pub record Counted (count : ℕ) (small : Bool) (rest o : Octets) : Type 0 where
  pub numbers : List ℕ
  pub as_many : length numbers ≡ count
  pub judged : IsJudged small numbers
  pub whole : o ≡ flat_map septets numbers ++ rest
