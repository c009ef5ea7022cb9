use Rattle.std.proofs.Common.{subst}
use Rattle.resolve.specs.Program.{WrittenProgram, IsAssignment}
use Rattle.extensions.specs.Faults.{IsWrong}
use Rattle.extensions.specs.proving.Tables.{IsWrongValue}
use Rattle.extensions.proofs.Each.{reports_more}
use Rattle.extensions.proofs.assigned.is_typed.Goals as goal

pub returns-in-Err-clause-fault : goal.returns-in-Err-clause-fault
returns-in-Err-clause-fault c =
    let t = c.args.bounded.now in
    let v = c.args.value.now in
    let M = c.assigned-home.result.module.now in
    let x = c.assigned-home.result.name.now in
    let at = subst (λ (w : WrittenProgram). IsAssignment w.program v.assignment M x) c.linked-linked.ensures
    c.assigned-home.ensures in
    reports_more (IsWrong t M v.ty v.syntax) (IsWrongValue t c.args.number) c.in-Err.wrong
    (λ f w. record {
      value = v;
      there = c.requires.is;
      text = c.requires.text;
      within = M;
      assigns = x;
      is_so = at;
      wrong = w;
    })
    c.in-Err.ensures.fault
