use Rattle.std.proofs.Common.{subst, sym}
use Rattle.resolve.specs.Program.{WrittenProgram}
use Rattle.constraints.specs.declared.column.BoundTable.{BoundTable}
use Rattle.constraints.specs.proving.Columns.{HoldsOf}
use Rattle.constraints.proofs.Bounding.{limit_some}
use Rattle.constraints.proofs.bounded.Bounded.limit.Goals as goal

pub returns : goal.returns
returns c =
    let col = c.get.result.now in
    let h = subst (λ (t : BoundTable). HoldsOf c.self.inside.tagged.now.program t) (sym c.get.ensures) c.self.invariant in
    limit_some c.args.self.now.program col.at.items col.limits.items c.args.ty c.limit.result
    (subst (λ (w : WrittenProgram). HoldsOf w.program col) c.self.view_is h) c.requires c.limit.ensures
