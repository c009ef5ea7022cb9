-- What a search in ranges compares.
use Rattle.std.specs.Prelude.{ℤ, Bool, false, Option, Some, None, int_lt}

-- the end is below the number
abbrev pub is_below : ℤ → Option ℤ → Bool
is_below z None = false
is_below z (Some g) = int_lt g z
