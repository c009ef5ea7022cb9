use Rattle.asn_base.specs.Trees.{ranges_in}
use Rattle.asn_base.proofs.Unrolled.{keeps, rest_here, rest_there}
use Rattle.asn_base.proofs.range_node.+without_first.Goals as goal

pub returns-in-None : goal.returns-in-None
returns-in-None t c = keeps c.shared.result ranges_in _ _ c.shared.ensures (rest_here c.args.node.now c.in-None.is)

pub returns-in_ok-rest-in-Some : goal.returns-in_ok-rest-in-Some
returns-in_ok-rest-in-Some t c =
    keeps c.balanced.result ranges_in _ _ c.balanced.ensures
    (rest_there c.args.node.now c.deref.result.now c.in-Some.less _ c.in-Some.is c.deref.ensures c.in_ok-rest-in-Some.ensures)
