-- Codes between two others.
use Rattle.std.specs.Prelude.{ℕ, ◌≤◌}

-- the code is neither before the first one nor after the last one
abbrev pub IsBetween : (first last c : ℕ) → Type 0
IsBetween first last c = (first ≤ c) × (c ≤ last)
