-- What the modules of accepted texts hold.
use Rattle.resolve.specs.Program.{Program}
use Rattle.tagging.specs.Tables.{AreTagsOf}
use Rattle.tagging.specs.declared.table.TagTable.{TagTable}
use Rattle.constraints.specs.Tables.{AreBoundsOf}
use Rattle.constraints.specs.declared.column.BoundTable.{BoundTable}
use Rattle.front_end.specs.Accepted.{IsCheckedProgram}

-- the program is one of accepted texts, and the tables are its own
pub record Holds (p : Program) (tags : TagTable) (bounds : BoundTable) : Type 0 where
  pub kept : IsCheckedProgram p
  pub tags_of : AreTagsOf p tags
  pub bounds_of : AreBoundsOf p bounds
