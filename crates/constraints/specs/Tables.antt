-- Tables of what constraints allow, found once for the types of a program.
use Rattle.resolve.specs.Program.{Program}
use Rattle.constraints.specs.Bounded.{AreBounded}
use Rattle.constraints.specs.declared.column.BoundTable.{BoundTable}
use Rattle.constraints.specs.proving.Columns.{HoldsOf}

-- the table is that of this program, in which every constraint has a meaning and allows something
pub record AreBoundsOf (p : Program) (t : BoundTable) : Type 0 where
  pub holds : HoldsOf p t
  pub bounded : AreBounded p
