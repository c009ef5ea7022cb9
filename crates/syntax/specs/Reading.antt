-- Reading assignments from left to right.
use Rattle.std.specs.Prelude.{ℕ, Bool, true, false, List, ◌∷◌, length, Ok}
use Rattle.grammar.specs.Lexeme.{Lexeme, TypeRef, Ident}
use Rattle.grammar.specs.Reading.{Reader, ◌>>=◌, stop, many_at}
use Rattle.grammar.specs.Single.{assign_at, end_at, then_at}
use Rattle.trees.specs.Values.{Tree}
use Rattle.notation.specs.Reading.{value_at}
use Rattle.type_syntax.specs.TypeReading.{type_at}
use Rattle.trees.specs.Types.{TypeTree}
use Rattle.trees.specs.Modules.{AssignmentTree, assigns_type, assigns_value}

-- ---- assignments

abbrev pub begins_assignment : Lexeme → Bool
begins_assignment (TypeRef x) = true
begins_assignment (Ident x) = true
begins_assignment t = false

-- what comes after the type of a value assignment
abbrev pub typed_at : (ℕ → Bool) → ℕ → Reader (TypeTree × Tree)
typed_at fits n ts = type_at fits n ts >>= λ t. then_at assign_at (value_at fits n) t.1 >>= λ v. Ok ((t.0, v.0), v.1)

-- what comes after the name of a type that is assigned
abbrev pub type_assigned_at : (ℕ → Bool) → ℕ → List ℕ → Reader AssignmentTree
type_assigned_at fits n x ts = then_at assign_at (type_at fits n) ts >>= λ t. Ok (assigns_type x t.0, t.1)

module _ (fits : ℕ → Bool) where
  -- what comes after the name of a value that is assigned
  abbrev pub value_assigned_at : ℕ → List ℕ → Reader AssignmentTree
  value_assigned_at n x ts = typed_at fits n ts >>= λ p. Ok (assigns_value x p.0.0 p.0.1, p.1)

  unfoldable pub assignment_at : ℕ → Reader AssignmentTree
  assignment_at n (TypeRef x ∷ rest) = type_assigned_at fits n x rest
  assignment_at n (Ident x ∷ rest) = value_assigned_at n x rest
  assignment_at n ts = stop ts

  abbrev pub many_assignments_at : ℕ → Reader (List AssignmentTree)
  many_assignments_at n ts = many_at begins_assignment (assignment_at n) (length ts) ts

  -- what comes after the head of a module
  unfoldable pub assignments_at : ℕ → Reader (List AssignmentTree)
  assignments_at n ts = many_assignments_at n ts >>= λ xs. end_at xs.1 >>= λ e. Ok (xs.0, e.1)
