use Rattle.std.proofs.Common.{arith}
use Rattle.typed_values.proofs.Nearest.{no_nearer, none_nearer, one_nearer}
use Rattle.typed_values.proofs.chains.NameChains.nearer.Goals as goal

pub returns-in-None : goal.returns-in-None
returns-in-None c = none_nearer c.args.self.now c.args.chain c.args.name.now c.args.best c.in-None.ensures.none

pub returns-then-found-best : goal.returns-then-found-best
returns-then-found-best c =
    let test = c.if-found-best.true in
    one_nearer c.args.self.now c.args.chain c.args.name.now c.args.best c.in-Some.found c.in-Some.ensures.none (omega (arith, test))
    c.in-Some.ensures.it

pub returns-else-found-best : goal.returns-else-found-best
returns-else-found-best c =
    let test = c.if-found-best.false in
    no_nearer c.args.self.now c.args.chain c.args.name.now c.args.best c.in-Some.found c.in-Some.ensures.none (omega (arith, test))
