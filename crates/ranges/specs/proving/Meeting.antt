-- What two sets of ranges have in common, from their first ranges on.
use Rattle.std.specs.Prelude.{◌≡◌, ◌⊎◌, ℤ, ◌≤ℤ◌, List, [], ◌∷◌, ◌++◌, Option, Some, None}
use Rattle.std.specs.Int.{int_max, int_min}
use Rattle.asn_base.specs.Types.{Range}
use Rattle.ranges.specs.Numbers.{HoldsSome}

-- the later one of two beginnings
abbrev pub later_beginning : Option ℤ → Option ℤ → Option ℤ
later_beginning None l = l
later_beginning (Some k) None = Some k
later_beginning (Some k) (Some l) = Some (int_max k l)

-- the earlier one of two ends
abbrev pub earlier_end : Option ℤ → Option ℤ → Option ℤ
earlier_end None h = h
earlier_end (Some g) None = Some g
earlier_end (Some g) (Some h) = Some (int_min g h)

-- the range of the numbers in both ranges, which may contain no number
abbrev pub common : Range → Range → Range
common r s =
    record { least = later_beginning r.least s.least; greatest = earlier_end r.greatest s.greatest }

-- a range with the first end ends no later than one with the second
abbrev pub EndsAtMost : Option ℤ → Option ℤ → Type 0
EndsAtMost g None = Unit {0}
EndsAtMost None (Some h) = ⊥
EndsAtMost (Some g) (Some h) = g ≤ℤ h

-- the range comes before the others if it contains a number; else it is left out
abbrev pub IsKept : Range → List Range → List Range → Type 0
IsKept r ms ns = (HoldsSome r × (ns ≡ r ∷ ms)) ⊎ ((HoldsSome r → ⊥) × (ns ≡ ms))

-- `all` is `before`, then the range if it contains a number, then the rest
pub record IsPutBefore (r : Range) (rest before all : List Range) : Type 0 where
  pub kept : List Range
  pub is_kept : IsKept r rest kept
  pub are : all ≡ before ++ kept

-- these ranges are the intersection of two sets: what the two first ranges have in common, and then the intersection
-- without the one of them that ends first
pub data Meets : List Range → List Range → List Range → Type 0 where
  meets_none : {ss : List Range} → Meets [] ss []
  meets_with_none : {rs : List Range} → Meets rs [] []
  meets_past_left : {r s : Range} {rs ss ms ns : List Range}
      → EndsAtMost r.greatest s.greatest
      → Meets rs (s ∷ ss) ms
      → IsKept (common r s) ms ns
      → Meets (r ∷ rs) (s ∷ ss) ns
  meets_past_right : {r s : Range} {rs ss ms ns : List Range}
      → EndsAtMost s.greatest r.greatest
      → Meets (r ∷ rs) ss ms
      → IsKept (common r s) ms ns
      → Meets (r ∷ rs) (s ∷ ss) ns
