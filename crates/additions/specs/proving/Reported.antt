-- The place that the check of all types reports.
use Rattle.std.specs.Prelude.{List}
use Rattle.type_table.specs.declared.table.TypeNode.{TypeNode}
use Rattle.type_table.specs.Table.{Type'}
use Rattle.additions.specs.First.{IsFirstNamed}
use Rattle.additions.specs.declared.check.Fault.{Fault}
use Rattle.additions.specs.declared.check.Fault.TheVariants.{Memory, At}

-- the fault is the first one of these types, which are written so; `Memory` says nothing
abbrev pub IsFirstOf : List Type' → List TypeNode → Fault → Type 0
IsFirstOf ts ws Memory = Unit {0}
IsFirstOf ts ws (At r i at) = IsFirstNamed ts ws r i at
