-- What a step takes of a part of the input.
use Rattle.std.specs.Prelude.{◌≡◌, ◌⊎◌, ⊤, ℕ, ◌<◌, ◌≤◌, ◌==◌, Bool, true, false, List, [], ◌∷◌, ◌++◌, length, take}
use Rattle.std.specs.Prelude.{Option}
use Rattle.std.specs.Io.KnownBytes.{Consumes, IsAtEnd}
use Rattle.input_lines.specs.declared.lines.Taken.{Taken}
use Rattle.input_lines.specs.declared.lines.Taken.TheVariants as taken

-- none of the octets ends a line
abbrev pub HasNoEnd : List ℕ → Type 0
HasNoEnd [] = ⊤
HasNoEnd (x ∷ xs) = ((x == 10) ≡ false) × HasNoEnd xs

-- what is kept of the octets of a line: all of them, or more than a line may have
abbrev pub IsKept : (full line : List ℕ) → Type 0
IsKept full line = (line ≡ full) ⊎ ((33554432 < length line) × (33554432 < length full))

-- a step took the first octets of a part: some that belong to the line, and its end if it ends
pub record IsStep (old new part : List ℕ) (count : ℕ) (ends : Bool) : Type 0 where
  pub octets : List ℕ
  pub no_end : HasNoEnd octets
  pub kept : (full : List ℕ) → IsKept full old → IsKept (full ++ octets) new
  pub within : count ≤ length part
  pub ended : ends ≡ true → take count part ≡ octets ++ 10 ∷ []
  pub not_ended : ends ≡ false → take count part ≡ octets

-- what was taken of known octets, and what was added to the line
pub record IsTaken (a b : Option (List ℕ)) (old new : List ℕ) (t : Taken) : Type 0 where
  pub octets : List ℕ
  pub no_end : HasNoEnd octets
  pub kept : (full : List ℕ) → IsKept full old → IsKept (full ++ octets) new
  pub ended : t ≡ taken.Ended → Consumes a b (octets ++ 10 ∷ [])
  pub more : t ≡ taken.More → Consumes a b octets
  pub nothing : t ≡ taken.AtEnd → Consumes a b octets × (octets ≡ []) × IsAtEnd b
