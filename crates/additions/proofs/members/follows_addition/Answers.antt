use Rattle.std.proofs.Common.{rules, ◌<◌}
use Rattle.additions.proofs.Placing.{follows}
use Rattle.additions.proofs.members.follows_addition.Goals as goal

pub returns : goal.returns
returns c =
    let z : 0 < c.args.at = (let n = c.if-at-eq0.false in search rules) in
    follows c.args.components.now c.args.at c.index-components-at.result c.is_addition.result z c.requires c.index-components-at.is c.is_addition.ensures
