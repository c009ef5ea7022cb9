-- The turns of value assignments while notations are read, and types under which a value assignment comes to the same.
use Rattle.std.specs.Prelude.{◌≤◌, ◌<◌, ℕ, List}
use Rattle.names.specs.Modules.{OccursIn}
use Rattle.type_table.specs.Table.{WrittenKind, IsUnderlying}
use Rattle.resolve.specs.Program.{Program}
use Rattle.range_ends.specs.Ends.{IsTypeOfKind}
use Rattle.values.specs.constraints.Allowed.{LeaveTheSame}
use Rattle.typed_values.specs.declared.named.NamedValue.{NamedValue}
use Rattle.typed_values.specs.declared.named.NamedValues.{NamedValues}
use Rattle.typed_values.specs.Chains.{HasTurn}
use Rattle.typed_values.specs.Known.{ComesTo}

-- references and tags lead from types i and j to one type, and their constraints allow the same
pub record AreAlike (p : Program) (i j : ℕ) : Type 0 where
  pub core : ℕ
  pub one : IsUnderlying p.types i core
  pub other : IsUnderlying p.types j core
  pub same : (k : WrittenKind) → IsTypeOfKind p.types i k → IsTypeOfKind p.types j k → LeaveTheSame p k i j

-- what the entries say is true
abbrev pub AreTrue : Program → NamedValues → Type 0
AreTrue p n = (e : NamedValue) → OccursIn n.entries.items e → ComesTo p n.turns.items e

-- no turn became later, and none that was given changed
pub record AreLower (before after : List ℕ) : Type 0 where
  pub lower : (x t : ℕ) → HasTurn before x t → (u : ℕ) × HasTurn after x u × (u ≤ t)
  pub given : (x t : ℕ) → HasTurn before x t → t < 4294967295 → HasTurn after x t
