use Rattle.std.proofs.Common.{subst, sym}
use Rattle.resolve.specs.Program.{WrittenProgram}
use Rattle.constraints.specs.Tables.{AreBoundsOf}
use Rattle.front_end.proofs.modules.Modules.typed.Goals as goal

pub with_table-tagged-requires : goal.with_table-tagged-requires
with_table-tagged-requires c = c.self.invariant.tags_of

pub with_table-bounded-requires : goal.with_table-bounded-requires
with_table-bounded-requires c =
    subst (λ (p : WrittenProgram). AreBoundsOf p.program c.self.inside.bounds) (sym c.with_table-tagged.ensures) c.self.invariant.bounds_of
