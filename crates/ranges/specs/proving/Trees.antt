-- What is left of ranges within others.
use Rattle.std.specs.Prelude.{List, [], ◌∷◌, ◌++◌, None, if◌then◌else◌}
use Rattle.asn_base.specs.Types.{Range}
use Rattle.ranges.specs.proving.Joining.{holds_some}
use Rattle.ranges.specs.proving.Meeting.{common}

-- the range, if it contains a number
abbrev pub kept : Range → List Range
kept r = if holds_some r.least r.greatest then (r ∷ []) else []

-- what is left of the ranges within range r
unfoldable pub within : Range → List Range → List Range
within r [] = []
within r (x ∷ xs) = kept (common x r) ++ within r xs

-- what is left of ranges within each one of others, in the order of these
unfoldable pub within_each : List Range → List Range → List Range
within_each [] xs = []
within_each (r ∷ rs) xs = within r xs ++ within_each rs xs

-- the range from the same beginning on, without an end
abbrev pub onwards : Range → Range
onwards r = record { least = r.least; greatest = None }

-- the range up to the same end, without a beginning
abbrev pub up_to : Range → Range
up_to r = record { least = None; greatest = r.greatest }
