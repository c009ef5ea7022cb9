use Rattle.next_tags.proofs.Tests.{yes, any_here, any_later, fails}
use Rattle.next_tags.proofs.first.+any_begins.Goals as goal

pub returns-then-begins_call : goal.returns-then-begins_call
returns-then-begins_call t c = yes (any_here c.args.code.now c.args.tag c.args.calls.now c.in-Some.step.now c.in-Some.following.now c.in-Some.ensures.cases.0 (c.begins_call.ensures.0 c.if-begins_call.true))

pub returns : goal.returns
returns t c = any_later c.any_begins.result c.args.code.now c.args.tag c.args.calls.now c.in-Some.step.now c.in-Some.following.now c.in-Some.ensures.cases.0 (fails c.begins_call.result c.if-begins_call.false c.begins_call.ensures) c.any_begins.ensures
