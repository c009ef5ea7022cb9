use Rattle.std.proofs.Common.{sym, subst, ap}
use Rattle.type_table.specs.Table.{IsUnderlying}
use Rattle.resolve.specs.Program.{Program, WrittenProgram}
use Rattle.typed_values.proofs.named.are_alike.Goals as goal

pub returns-then-core-same : goal.returns-then-core-same
returns-then-core-same c = λ yes.
    let p = c.args.bounded.now.program in
    let one = subst (λ (q : Program). IsUnderlying q.types c.args.one.index c.core-core.result.index) (ap (λ (w : WrittenProgram). w.program) c.linked-linked.ensures) c.core-core.ensures.core in
    let other = subst (λ (q : Program). IsUnderlying q.types c.args.other.index c.core-same.result.index) (ap (λ (w : WrittenProgram). w.program) c.linked-linked.ensures) c.core-same.ensures.core in
    record {
      core = c.core-core.result.index;
      one = one;
      other = subst (λ d. IsUnderlying p.types c.args.other.index d) (sym c.if-core-same.true) other;
      same = c.leave_the_same.ensures yes;
    }
