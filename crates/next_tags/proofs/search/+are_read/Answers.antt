use Rattle.next_tags.proofs.Tests.{yes, read_none, read_more}
use Rattle.next_tags.proofs.search.+are_read.Goals as goal

pub returns-in_default : goal.returns-in_default
returns-in_default t c = yes (read_none c.args.marks.now c.args.steps.now c.in_default.ensures.cases)

pub returns : goal.returns
returns t c = read_more c.are_read.result c.args.marks.now c.args.steps.now c.in-Some.step.now c.in-Some.following.now c.in-Some.ensures.cases.0 (c.is_read.ensures.0 c.if-not-is_read.false) c.are_read.ensures
