use Rattle.std.proofs.Common.{subst, sym, ap}
use Rattle.resolve.specs.Program.{Program, WrittenProgram}
use Rattle.type_table.specs.Table.{IsUnderlying}
use Rattle.extensions.proofs.each_type.are_alike.Goals as goal

pub returns-then-first-second : goal.returns-then-first-second
returns-then-first-second c e =
    let p = c.args.bounded.now.program in
    let one = subst (λ (q : Program). IsUnderlying q.types c.args.one.index c.core-first.result.index) (ap (λ (w : WrittenProgram). w.program) c.linked-linked.ensures) c.core-first.ensures.core in
    let other = subst (λ (q : Program). IsUnderlying q.types c.args.other.index c.core-second.result.index) (ap (λ (w : WrittenProgram). w.program) c.linked-linked.ensures) c.core-second.ensures.core in
    record {
      core = c.core-first.result.index;
      one = one;
      other = subst (λ n. IsUnderlying p.types c.args.other.index n) (sym c.if-first-second.true) other;
      same = c.leave_the_same.ensures e;
    }
