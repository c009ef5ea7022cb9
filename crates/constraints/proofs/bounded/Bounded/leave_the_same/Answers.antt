use Rattle.std.proofs.Common.{subst, sym, ◌∙◌}
use Rattle.std.proofs.lemmas.Bool.{eqb-true}
use Rattle.resolve.specs.Program.{WrittenProgram}
use Rattle.constraints.specs.declared.column.BoundTable.{BoundTable}
use Rattle.constraints.specs.proving.Columns.{HoldsOf}
use Rattle.constraints.proofs.Bounding.{one_limit}
use Rattle.constraints.proofs.bounded.Bounded.leave_the_same.Goals as goal

pub returns-in-Some-number : goal.returns-in-Some-number
returns-in-Some-number c e k u v =
    let col = c.get-column.result.now in
    let h = subst (λ (t : BoundTable). HoldsOf c.self.inside.tagged.now.program t) (sym c.get-column.ensures) c.self.invariant in
    one_limit c.args.self.now.program col.at.items col.limits.items c.args.one.index c.args.other.index c.in-Some.number c.in-Some-number.same
    (subst (λ (w : WrittenProgram). HoldsOf w.program col) c.self.view_is h)
    (sym c.number.ensures ∙ c.in-Some.is) (sym c.number-in-Some.ensures ∙ c.in-Some-number.is) (eqb-true c.in-Some.number c.in-Some-number.same e) k u v
