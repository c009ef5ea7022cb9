use Rattle.std.proofs.Common.{ap, ◌∙◌}
use Rattle.views.specs.Seen.{side_lists, tree_of}
use Rattle.views.specs.Tree.{value_of}
use Rattle.views.proofs.Readings.{spelled_as}
use Rattle.views.proofs.part.ValueRef.to_value.Goals as goal

pub returns : goal.returns
returns c =
    let s = side_lists c.self.inside.lists.now in
    let ns = c.self.inside.nodes.now in
    let i = c.self.invariant in
    c.in_ok-value.ensures i.0 (tree_of s ns) (spelled_as s ns i) ∙ ap value_of c.self.view_is
