use Rattle.std.proofs.Common.{sym, subst}
use Rattle.names.specs.Faults.{fault_module}
use Rattle.names.specs.Sources.{value_seen}
use Rattle.resolve.specs.Program.{IsAssignment}
use Rattle.constraints.proofs.fault.circular.Goals as goal

pub returns-in-Ok-clause-is_so : goal.returns-in-Ok-clause-is_so
returns-in-Ok-clause-is_so c =
    let p = c.args.linked.now.program in
    let v = value_seen c.value_at-written.result.now in
    let b = subst (λ M. IsAssignment p v.assignment M c.assigned-home.result.name.now) (sym c.in-Ok.ensures.within) c.assigned-home.ensures in
    record {
      number = c.args.value;
      value = v;
      there = c.value_at-written.ensures;
      is_so = subst (IsAssignment p v.assignment (fault_module c.in-Ok.source_location)) (sym c.in-Ok.ensures.name) b;
      ty = c.requires.round.0;
      round = c.requires.round.1;
    }

pub returns-in-Ok-clause-first : goal.returns-in-Ok-clause-first
returns-in-Ok-clause-first c = λ f.
    let p = c.args.linked.now.program in
    let v = value_seen c.value_at-written.result.now in
    let b = subst (λ M. IsAssignment p v.assignment M c.assigned-home.result.name.now) (sym c.in-Ok.ensures.within) c.assigned-home.ensures in
    record {
      number = c.args.value;
      first = f;
      value = v;
      there = c.value_at-written.ensures;
      is_so = subst (IsAssignment p v.assignment (fault_module c.in-Ok.source_location)) (sym c.in-Ok.ensures.name) b;
      assigned = c.assigned_at-assigned.result.now;
      written = c.assigned_at-assigned.ensures;
      at = c.in-Ok.ensures.at;
    }
