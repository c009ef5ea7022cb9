-- Walks that come into a circle.
use Rattle.std.specs.Prelude.{◌≡◌, ◌<◌, ℕ, Option, Some}
use Rattle.type_table.specs.Walks.{follow, EndsAt, ArrivesAt, ComesBack}

-- the references from place i on come to place c, which comes back to itself
pub record ComesRound (next : ℕ → Option ℕ) (i c : ℕ) : Type 0 where
  pub reaches : ArrivesAt next i c
  pub back : ComesBack next c

-- v is the first place on the way from place i on that comes back to itself
pub record IsFirstBack (next : ℕ → Option ℕ) (i v : ℕ) : Type 0 where
  pub steps : ℕ
  pub chain : follow next steps i ≡ Some v
  pub back : ComesBack next v
  pub first : (s q : ℕ) → s < steps → follow next s i ≡ Some q → ComesBack next q → ⊥

-- s references, and at least one, lead from place c back to it
pub record IsRound (next : ℕ → Option ℕ) (c s : ℕ) : Type 0 where
  pub some : 0 < s
  pub chain : follow next s c ≡ Some c

-- references from place i on never end
abbrev pub Goes : (ℕ → Option ℕ) → ℕ → Type 0
Goes next i = (c : ℕ) → EndsAt next i c → ⊥
