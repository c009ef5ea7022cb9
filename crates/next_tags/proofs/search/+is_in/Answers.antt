use Rattle.next_tags.proofs.Tests.{yes, member_here, member_later}
use Rattle.next_tags.proofs.search.+is_in.Goals as goal

pub returns-then-mark-place : goal.returns-then-mark-place
returns-then-mark-place t c = yes (member_here c.args.place c.in-Some.mark.now c.args.marks.now c.in-Some.following.now c.in-Some.ensures.cases.0 c.if-mark-place.true)

pub returns : goal.returns
returns t c = member_later c.is_in.result c.args.place c.in-Some.mark.now c.args.marks.now c.in-Some.following.now c.in-Some.ensures.cases.0 c.if-mark-place.false c.is_in.ensures
