-- What is true of the readers of values, constraints and sizes inside types.
use Rattle.std.specs.Prelude.{◌≡◌, ℕ, Bool, true}
use Rattle.grammar.specs.Grows.{Grows}
use Rattle.notation.specs.Laws.{ValueLaws}
use Rattle.grammar.specs.Rules.{Ruled}
use Rattle.notation.specs.ConstraintGrammar.{size, constraint}
use Rattle.notation.specs.ConstraintReading.{is_size, size_at, constraint_at}
use Rattle.grammar.specs.Reading.{is_open}

pub record PartLaws : Type 0 where
  pub values : ValueLaws
  pub constraints : Ruled constraint is_open constraint_at
  pub constraints_grow : (fits fits' : ℕ → Bool)
      → ((n : ℕ) → fits n ≡ true → fits' n ≡ true)
      → Grows (constraint fits) (constraint fits')
  pub sizes : Ruled size is_size size_at
  pub sizes_grow : (fits fits' : ℕ → Bool) → ((n : ℕ) → fits n ≡ true → fits' n ≡ true) → Grows (size fits) (size fits')
