-- Tables of what is found once for the types of a program.
use Rattle.resolve.specs.Program.{Program}
use Rattle.tagging.specs.Tagged.{IsTagged}
use Rattle.tagging.specs.declared.table.TagTable.{TagTable}
use Rattle.tagging.specs.proving.Columns.{HoldsOf}

-- the table is that of this program, whose types have the tags that are required
pub record AreTagsOf (p : Program) (t : TagTable) : Type 0 where
  pub holds : HoldsOf p.types t
  pub tagged : IsTagged p.types
