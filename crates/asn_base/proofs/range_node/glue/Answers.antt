use Rattle.asn_base.specs.Trees.{ranges_in}
use Rattle.asn_base.proofs.Unrolled.{glued, keeps}
use Rattle.asn_base.proofs.range_node.glue.Goals as goal

pub returns-in_ok-rest-in-Some : goal.returns-in_ok-rest-in-Some
returns-in_ok-rest-in-Some c =
    keeps c.joined.result ranges_in _ _ c.joined.ensures
    (glued c.args.after.now c.deref-node.result.now c.in-Some.node c.first_kept.result.now _ c.first_kept.ensures.0 _ c.in-Some.is c.deref-node.ensures c.first_kept.ensures.1 c.in_ok-rest-in-Some.ensures)
