use Rattle.asn_base.specs.Trees.{ranges_in}
use Rattle.asn_base.proofs.Unrolled.{hung_after, keeps}
use Rattle.asn_base.proofs.range_node.+hang_after.Goals as goal

pub returns-then-node-saturating_add : goal.returns-then-node-saturating_add
returns-then-node-saturating_add t c =
    keeps c.balanced.result ranges_in _ _ c.balanced.ensures
    (hung_after c.args.before.now c.deref-node.result.now c.in-Some.node _ _ _ c.in-Some.is c.deref-node.ensures c.in_ok-rest.ensures)
