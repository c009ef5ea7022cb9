-- Ranges in order of their least numbers, joined where they touch.
use Rattle.std.specs.Prelude.{ℤ, ◌≤ℤ◌, int_le, Bool, true, List, [], ◌∷◌, Option, Some, None}
use Rattle.std.specs.Int.{int_max}
use Rattle.asn_base.specs.Types.{Range}
use Rattle.ranges.specs.Numbers.{EndsBefore}

-- the test whether a range contains a number
abbrev pub holds_some : (least greatest : Option ℤ) → Bool
holds_some None g = true
holds_some (Some l) None = true
holds_some (Some l) (Some g) = int_le l g

-- a range with the first beginning begins no later than one with the second
abbrev pub BeginsAtMost : Option ℤ → Option ℤ → Type 0
BeginsAtMost None l = Unit {0}
BeginsAtMost (Some k) None = ⊥
BeginsAtMost (Some k) (Some l) = k ≤ℤ l

-- each range begins at the next one's beginning or before
abbrev pub AreAscending : List Range → Type 0
AreAscending [] = Unit {0}
AreAscending (r ∷ []) = Unit {0}
AreAscending (r ∷ s ∷ rs) = BeginsAtMost r.least s.least × AreAscending (s ∷ rs)

-- the later one of two ends
abbrev pub later : Option ℤ → Option ℤ → Option ℤ
later None h = None
later (Some g) None = None
later (Some g) (Some h) = Some (int_max g h)

-- the range from the beginning of the first one to the later end of both
abbrev pub joined : Range → Range → Range
joined r s = record { least = r.least; greatest = later r.greatest s.greatest }

-- a range and those after it are joined to these
pub data Joins : Range → List Range → List Range → Type 0 where
  joins_last : {r : Range} → Joins r [] (r ∷ [])
  joins_apart : {r s : Range} {rs js : List Range}
      → EndsBefore r s
      → Joins s rs js
      → Joins r (s ∷ rs) (r ∷ js)
  joins_touching : {r s : Range} {rs js : List Range}
      → (EndsBefore r s → ⊥)
      → Joins (joined r s) rs js
      → Joins r (s ∷ rs) js
