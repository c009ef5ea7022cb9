use Rattle.std.proofs.Common.{subst, ◌∙◌}
use Rattle.resolve.specs.Program.{WrittenProgram}
use Rattle.constraints.specs.proving.Columns.{AreAllNoted}
use Rattle.constraints.proofs.Bounding.{bounded_by}
use Rattle.constraints.proofs.bounded.bound_table.Goals as goal

pub returns-in-Ok-column_of-clause-found : goal.returns-in-Ok-column_of-clause-found
returns-in-Ok-column_of-clause-found c =
    let col = c.in-Ok-column_of.column in
    let noted = subst (λ (p : WrittenProgram). AreAllNoted p.program col.at.items col.limits.items) (c.in-Ok.ensures ∙ c.linked-linked.ensures.value)
    c.in-Ok-column_of.ensures.found in
    record {
      holds = noted;
      bounded = bounded_by c.args.tagged.now.program col.at.items col.limits.items noted;
    }
