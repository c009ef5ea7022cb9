-- Sets of numbers to which numbers are added.
use Rattle.std.specs.Prelude.{◌≡◌, ◌⊎◌, ◌↔◌, ◌<◌, ◌≤◌, ℕ, ℤ, pos, List}
use Rattle.names.specs.Modules.{OccursIn}

-- the new set is the old one with x
abbrev pub Puts : {A : Type 0} → List A → List A → A → Type 0
Puts {A} old new x = (y : A) → OccursIn new y ↔ (OccursIn old y ⊎ (x ≡ y))

-- the set has exactly the members of the list
abbrev pub IsSetOf : {A : Type 0} → List A → List A → Type 0
IsSetOf {A} keys xs = (y : A) → OccursIn keys y ↔ OccursIn xs y

-- z is the least number from n on that isn't in the list
pub record IsFree (used : List ℤ) (n z : ℕ) : Type 0 where
  pub from : n ≤ z
  pub unused : OccursIn used (pos z) → ⊥
  pub taken : (m : ℕ) → n ≤ m → m < z → OccursIn used (pos m)
