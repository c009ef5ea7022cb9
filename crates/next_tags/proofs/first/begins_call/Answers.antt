use Rattle.next_tags.proofs.Tests.{begins_by}
use Rattle.next_tags.proofs.first.begins_call.Goals as goal

pub returns-in-Call : goal.returns-in-Call
returns-in-Call c = begins_by c.is_outermost.result c.args.code.now c.args.tag c.args.step c.in-Call.id c.in-Call.is c.is_outermost.ensures
