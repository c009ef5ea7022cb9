use Rattle.std.proofs.Common.{false, get_or}
use Rattle.views.specs.declared.node.NodeContent.TheVariants.{Bool}
use Rattle.views.specs.declared.node.Node.{Node}
use Rattle.views.specs.Seen.{content_of, side_lists}
use Rattle.views.proofs.Fronts.{some_nodes, content_says}
use Rattle.views.proofs.Ranges.{get_same}
use Rattle.views.proofs.Readings.{head}
use Rattle.views.proofs.node_slices.first_of.Goals as goal

abbrev none : Node
none = record { number = 0; content = Bool false }

pub bounds-nodes-0 : goal.bounds-nodes-0
bounds-nodes-0 c = some_nodes (side_lists c.args.lists.now) c.args.nodes.now c.requires.0 c.requires.1 c.requires.2

pub returns-clause-some : goal.returns-clause-some
returns-clause-some c = some_nodes (side_lists c.args.lists.now) c.args.nodes.now c.requires.0 c.requires.1 c.requires.2

pub returns-clause-matches : goal.returns-clause-matches
returns-clause-matches c k t p =
    let s = side_lists c.args.lists.now in
    let ns = c.args.nodes.now in
    content_says s ns k t (get_or ns 0 none) p (get_same ns 0 none (get_or ns 0 none) (some_nodes s ns k t p))

pub returns-clause-head : goal.returns-clause-head
returns-clause-head c =
    let s = side_lists c.args.lists.now in
    let ns = c.args.nodes.now in
    head s ns (content_of s (get_or ns 0 none).content) c.requires
    (λ k t p. content_says s ns k t (get_or ns 0 none) p (get_same ns 0 none (get_or ns 0 none) (some_nodes s ns k t p)))
