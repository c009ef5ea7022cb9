use Rattle.std.proofs.Common.{arith, ap, ◌∙◌}
use Rattle.octet_answers.specs.Found.{field_in as field_in'}
use Rattle.der_check.proofs.Climbing.{step_at, got, none_past}
use Rattle.der_check.proofs.sets.field_at.Goals as goal

pub returns-then-place-steps : goal.returns-then-place-steps
returns-then-place-steps c = λ cs k r e.
    let a = step_at c.args.place c.args.place (omega arith) r e in
    c.field_in.ensures ∙ ap field_in' (got c.args.steps.now c.args.place a.step c.index-steps-place.result a.is_at c.index-steps-place.is) ∙ a.reads

pub returns-else-place-steps : goal.returns-else-place-steps
returns-else-place-steps c = λ cs k r e.
    let a = step_at c.args.place c.args.place (omega arith) r e in
    absurd (none_past c.args.steps.now c.args.place a.step a.is_at (omega (arith, c.if-place-steps.false)))
