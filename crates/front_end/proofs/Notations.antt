-- A notation with a fault has no value.
use Rattle.std.proofs.Common.{◌≡◌, ◌≤◌, ℕ, List, []}
use Rattle.asn_base.specs.Abstract.{AbstractValue}
use Rattle.asn_base.specs.Typed.{nodes}
use Rattle.trees.specs.declared.value.ValueSyntax.{ValueSyntax}
use Rattle.trees.specs.Values.{Name, tree_of}
use Rattle.type_table.specs.Lists.{AreSound}
use Rattle.names.specs.Names.{IsApart}
use Rattle.resolve.specs.Program.{WrittenProgram}
use Rattle.value_notations.specs.Notations.{Notation}
use Rattle.value_notations.specs.Values.{NotatedValueIn}
use Rattle.extensions.specs.values.Allowing.{Allows, AllowsCode}
use Rattle.value_diagnostics.specs.typed_values.declared.fault.Cause.TheVariants as causes
use Rattle.value_diagnostics.specs.typed_values.declared.fault.ValueFault.{ValueFault}
use Rattle.value_diagnostics.specs.typed_values.Faults as typed
use Rattle.extensions.specs.Faults.{IsWrong}
use Rattle.front_end.specs.Accepted.{IsCheckedProgram}
use Rattle.front_end.specs.ValueError.{DenotesValue}

abbrev pub Exclude : Type 0
Exclude = (w : WrittenProgram) (levels left i : ℕ) (os : List ℕ) (M : Name) (n : ValueSyntax) (f : ValueFault)
    (v : AbstractValue)
    → IsApart w.program.modules
    → AreSound w.program.types
    → typed.IsRightValueFault w levels left os M i n f
    → (f.cause ≡ causes.Memory → ⊥)
    → Notation w.program os M i (tree_of n) v
    → NotatedValueIn w.program (Allows w.program) (AllowsCode w.program) levels i v
    → nodes v ≤ left
    → ⊥

pub no_value : Exclude → (t : WrittenProgram) (M : Name) (i : ℕ) (n : ValueSyntax) (f : ValueFault)
    → IsCheckedProgram t.program
    → IsWrong t M i n f
    → (v : AbstractValue)
    → DenotesValue t.program M i (tree_of n) v
    → ⊥
no_value exclude t M i n f r w v h =
    exclude t 64 16777216 i [] M n f v r.read.apart r.read.sound.lists w.is_so w.caused h.is_so
    h.value.shaped h.value.few_nodes
