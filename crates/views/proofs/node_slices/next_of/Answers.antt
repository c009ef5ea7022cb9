use Rattle.views.specs.Seen.{side_lists}
use Rattle.views.proofs.Readings.{begins}
use Rattle.views.proofs.node_slices.next_of.Goals as goal

pub returns-clause-first : goal.returns-clause-first
returns-clause-first c =
    begins (side_lists c.args.lists.now) c.args.nodes.now c.args.at _ _ c.requires.left (λ ms l. c.span_of-number.ensures.next ms l)
