use Rattle.std.proofs.Common.{sym}
use Rattle.next_tags.proofs.Tests.{any_at}
use Rattle.next_tags.proofs.first.begins_at.Goals as goal

pub returns-in-Some : goal.returns-in-Some
returns-in-Some c = λ t. any_at c.args.code.now c.args.tag c.args.calls.now c.args.at c.in-Some.step (sym c.in-Some.ensures) (c.begins_call.ensures.0 t)
