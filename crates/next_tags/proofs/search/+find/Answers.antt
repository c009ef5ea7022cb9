use Rattle.std.proofs.Common.{sym, ◌∙◌}
use Rattle.next_tags.proofs.Finding.{found_here, later_if, no_field, no_first}
use Rattle.next_tags.proofs.Tests.{fails}
use Rattle.next_tags.proofs.search.+find.Goals as goal

pub returns-then-can_begin-clause-some : goal.returns-then-can_begin-clause-some
returns-then-can_begin-clause-some t c = found_here c.args.code.now c.args.tag c.args.steps.now c.in-Some.step.now c.in-Some.following.now c.in-Some-field_in.field c.in-Some.ensures.cases.0 (sym c.field_in.ensures ∙ c.in-Some-field_in.is) (c.can_begin.ensures.0 c.if-can_begin.true)

pub returns-else-can_begin-clause-some : goal.returns-else-can_begin-clause-some
returns-else-can_begin-clause-some t c = later_if c.find.result c.args.code.now c.args.tag c.args.steps.now c.in-Some.step.now c.in-Some.following.now c.in-Some.ensures.cases.0
    (no_first c.args.code.now c.args.tag c.in-Some.step.now c.in-Some-field_in.field (sym c.field_in.ensures ∙ c.in-Some-field_in.is) (fails c.can_begin.result c.if-can_begin.false c.can_begin.ensures)) c.find.ensures.some

pub returns-in-None-clause-some : goal.returns-in-None-clause-some
returns-in-None-clause-some t c = later_if c.find-in-None.result c.args.code.now c.args.tag c.args.steps.now c.in-Some.step.now c.in-Some.following.now c.in-Some.ensures.cases.0
    (no_field c.args.code.now c.args.tag c.in-Some.step.now (sym c.field_in.ensures ∙ c.in-None.is)) c.find-in-None.ensures.some
