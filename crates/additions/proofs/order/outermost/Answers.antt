use Rattle.additions.proofs.Placing.{outermost_first}
use Rattle.additions.proofs.order.outermost.Goals as goal

pub returns-in-Some : goal.returns-in-Some
returns-in-Some c = outermost_first c.args.path.now c.in-Some.formed.now c.in-Some.ensures.value
