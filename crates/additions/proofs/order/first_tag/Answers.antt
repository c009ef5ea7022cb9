use Rattle.additions.proofs.Placing.{first_at}
use Rattle.additions.proofs.order.first_tag.Goals as goal

pub returns : goal.returns
returns c = first_at c.args.tagged.now.program.types c.args.ty c.in_ok-path.path.items c.deref.result.now c.in-Some.tag c.in_ok-path.ensures.ok c.deref.ensures c.in-Some.ensures
