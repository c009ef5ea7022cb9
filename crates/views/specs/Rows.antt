-- Rows of components while they are filled.
use Rattle.std.specs.Prelude.{◌≡◌, ℕ, ◌<◌, ◌==◌, List, length, cond, get_or, Option, Some, None}
use Rattle.std.specs.List.{AllByRecursion}
use Rattle.asn_base.specs.Abstract.{AbstractValue}

-- a row of n components, all of them absent
abbrev pub AreAbsent : {A : Type 0} → ℕ → List (Option A) → Type 0
AreAbsent n os = (length os ≡ n) × AllByRecursion (λ o. o ≡ None) os

-- the first of two if it is some, else the second
abbrev pub or_else : {A : Type 0} → Option A → Option A → Option A
or_else None o = o
or_else (Some v) o = Some v

-- value v is put at place k, if there is such a place and it is still empty; other places stay as they are
pub record IsPut (os : List (Option AbstractValue)) (k : ℕ) (v : AbstractValue) (ps : List (Option AbstractValue))
    : Type 0 where
  pub as_many : length ps ≡ length os
  pub each : (i : ℕ) → i < length os → (r : Option AbstractValue)
      → or_else (get_or os i None) (cond (k == i) (Some v) r) ≡ or_else (get_or ps i None) r
