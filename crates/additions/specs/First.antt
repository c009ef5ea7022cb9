-- Where in the text the first fault of extension additions is reported (X.680, clauses 20, 25, 27 and 29). It is the
-- place of the name of the member or of the item that breaks the rule.
use Rattle.std.specs.Prelude.{◌≡◌, ℕ, List, Some, slice_get}
use Rattle.trees.specs.declared.location.SourceLocation.{SourceLocation}
use Rattle.names.specs.Faults.{fault_module, fault_name}
use Rattle.type_table.specs.declared.table.TypeNode.{TypeNode}
use Rattle.type_table.specs.FirstInList.{IsSameLocation}
use Rattle.type_table.specs.Table.{Type'}
use Rattle.resolve.specs.Program.{WrittenProgram}
use Rattle.tagging.specs.Faults.{IsWrittenIn}
use Rattle.additions.specs.Additions.{IsFirstBreak}
use Rattle.additions.specs.declared.check.Rule.{Rule}
use Rattle.additions.specs.declared.fault.ExtFault.{ExtFault}
use Rattle.additions.specs.declared.fault.ExtFault.TheVariants as faults
use Rattle.additions.specs.proving.Checks.{IsNamedAt}

-- of these types, which are written so, type i is the first that breaks a rule, at the member or item whose name is at
-- this offset of the text
pub record IsFirstNamed (ts : List Type') (ws : List TypeNode) (r : Rule) (i at : ℕ) : Type 0 where
  pub first : IsFirstBreak ts r i
  pub written : TypeNode
  pub there : slice_get ws i ≡ Some written
  pub named : IsNamedAt written.shape first.number at

-- the spot has the offset of the first fault, and the module and the assignment in which the type is written
pub record IsFirstAdditionAt (w : WrittenProgram) (r : Rule) (s : SourceLocation) : Type 0 where
  pub ty : ℕ
  pub first : IsFirstNamed w.program.types w.types r ty s.at
  pub is_so : IsWrittenIn w.program ty (fault_module s) (fault_name s)

-- two faults are of the same rule, module, assignment and offset; `Memory` says nothing
abbrev pub ReportOneAddition : ExtFault → ExtFault → Type 0
ReportOneAddition faults.Memory f = Unit {0}
ReportOneAddition e faults.Memory = Unit {0}
ReportOneAddition (faults.MarkerPlace s) (faults.MarkerPlace t) = IsSameLocation s t
ReportOneAddition (faults.AdditionOrder s) (faults.AdditionOrder t) = IsSameLocation s t
ReportOneAddition (faults.DefaultAddition s) (faults.DefaultAddition t) = IsSameLocation s t
ReportOneAddition e f = ⊥
