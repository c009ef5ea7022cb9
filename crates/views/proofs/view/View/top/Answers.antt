use Rattle.std.proofs.Common.{ap, ◌∙◌}
use Rattle.views.specs.Seen.{side_lists, tree_of}
use Rattle.views.proofs.view.View.top.Goals as goal

pub returns : goal.returns
returns c = c.value_ref.ensures ∙ ap (tree_of (side_lists c.self.inside.lists)) c.as_slice.ensures.value ∙ c.self.view_is
