-- References from place to place, where each place refers to at most one other. The types of X.680, clause 16, and the
-- values of clause 17 refer to one another in this way.
use Rattle.std.specs.Prelude.{◌≡◌, ℕ, zero, suc, ◌<◌, Option, Some, None}

-- what f gives for the place, or None if there is no place
abbrev pub onward : Option ℕ → (ℕ → Option ℕ) → Option ℕ
onward None f = None
onward (Some j) f = f j

-- the place after k references from place i on
abbrev pub follow : (ℕ → Option ℕ) → ℕ → ℕ → Option ℕ
follow next zero i = Some i
follow next (suc k) i = onward (next i) (λ j. follow next k j)

-- the references from place i on end at place c
pub record EndsAt (next : ℕ → Option ℕ) (i c : ℕ) : Type 0 where
  pub steps : ℕ
  pub chain : follow next steps i ≡ Some c
  pub ends : next c ≡ None

-- the references from place i on come back to it
pub record ComesBack (next : ℕ → Option ℕ) (i : ℕ) : Type 0 where
  pub steps : ℕ
  pub back : follow next (suc steps) i ≡ Some i

-- each reference leads to a place below n
abbrev pub IsWithin : (ℕ → Option ℕ) → ℕ → Type 0
IsWithin next n = (i j : ℕ) → next i ≡ Some j → j < n

-- the references from place i on lead to place p
pub record ArrivesAt (next : ℕ → Option ℕ) (i p : ℕ) : Type 0 where
  pub steps : ℕ
  pub chain : follow next steps i ≡ Some p
