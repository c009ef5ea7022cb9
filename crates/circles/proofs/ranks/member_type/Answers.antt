use Rattle.circles.proofs.Rising.{type_there}
use Rattle.circles.proofs.ranks.member_type.Goals as goal

pub returns-in-Some : goal.returns-in-Some
returns-in-Some c = type_there c.args.components.now c.args.number c.in-Some.component.now c.in-Some.ensures.lookup.3.0 c.in-Some.ensures.lookup.1
