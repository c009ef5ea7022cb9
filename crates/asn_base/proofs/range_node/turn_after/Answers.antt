use Rattle.asn_base.specs.Trees.{ranges_in}
use Rattle.asn_base.proofs.Unrolled.{keeps, once_after, twice_after}
use Rattle.asn_base.proofs.range_node.turn_after.Goals as goal

pub returns-then-height-inner : goal.returns-then-height-inner
returns-then-height-inner c =
    keeps c.fork-then-height-inner-2.result ranges_in _ _ c.fork-then-height-inner-2.ensures
    (twice_after c.args.node.now c.deref-inner.result.now c.in-Some.inner _ _ _ _ c.in-Some.is c.deref-inner.ensures c.in_ok-after.ensures c.in_ok-before.ensures)

pub returns : goal.returns
returns c = keeps c.fork-3.result ranges_in _ _ c.fork-3.ensures (once_after c.args.node.now _ _ _ c.in_ok-before-2.ensures)
