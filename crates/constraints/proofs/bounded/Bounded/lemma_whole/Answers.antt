use Rattle.std.proofs.Common.{subst}
use Rattle.resolve.specs.Program.{WrittenProgram}
use Rattle.constraints.specs.Bounded.{AreBounded}
use Rattle.constraints.specs.proving.Columns.{held}
use Rattle.constraints.proofs.Bounding.{bounded_by}
use Rattle.constraints.proofs.bounded.Bounded.lemma_whole.Goals as goal

pub returns : goal.returns
returns c =
    let col = held c.self.inside.table in
    subst (λ (w : WrittenProgram). AreBounded w.program) c.self.view_is (bounded_by _ col.at.items col.limits.items c.self.invariant)
