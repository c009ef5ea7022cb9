-- The value that a notation means in accepted texts, and what is reported for a notation that means none (X.680,
-- clauses 16 to 33, 41 and 51).
use Rattle.std.specs.Prelude.{◌≡◌, ℕ}
use Rattle.asn_base.specs.Abstract.{AbstractValue}
use Rattle.trees.specs.declared.value.ValueSyntax.{ValueSyntax}
use Rattle.trees.specs.Values.{Name, Tree, tree_of}
use Rattle.resolve.specs.Program.{Program, WrittenProgram}
use Rattle.value_notations.specs.Values.{IsTyped}
use Rattle.extensions.specs.values.Allowing.{Allows, AllowsCode}
use Rattle.extensions.specs.Faults.{IsWrong}
use Rattle.value_diagnostics.specs.declared.value_diagnostic.ValueDiagnostic.{ValueDiagnostic}
use Rattle.front_end.specs.Faults.{Reports}
use Rattle.front_end.specs.declared.modules.ValueError.{ValueError}
use Rattle.front_end.specs.declared.modules.ValueError.TheVariants as value_error

-- notation n, read in module M of program p, means v, which is a value of type i
abbrev pub DenotesValue : Program → Name → ℕ → Tree → AbstractValue → Type 0
DenotesValue p M i n v = IsTyped p (Allows p) (AllowsCode p) M i n v

-- Notation n, with its offsets, means no value of type i, if it is read in module M. The report is of a fault that is
-- true of it, with the offset in the notation, or in the text of the modules if references lead there.
pub record HasNoValue (p : Program) (M : Name) (i : ℕ) (n : ValueSyntax) (t : ValueDiagnostic) : Type 0 where
  pub none : (v : AbstractValue) → DenotesValue p M i (tree_of n) v → ⊥
  pub text : WrittenProgram
  pub of : text.program ≡ p
  pub report : Reports p (IsWrong text M i n) t

-- the fault of notation n is true; `Memory` says nothing
abbrev pub IsValueError : Program → Name → ℕ → ValueSyntax → ValueError → Type 0
IsValueError p M i n value_error.Memory = Unit {0}
IsValueError p M i n (value_error.Diagnosed t) = HasNoValue p M i n t
