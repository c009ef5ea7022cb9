use Rattle.std.proofs.Common.{sym, subst}
use Rattle.views.specs.Building.{with_tree}
use Rattle.views.specs.Seen.{AreBuilt, side_lists}
use Rattle.views.proofs.Steps.{added}
use Rattle.views.proofs.builder.Builder.add.Goals as goal

pub returns : goal.returns
returns c b t h e =
    subst (λ q. AreBuilt (side_lists c.args.self.now.lists) q c.args.self.now.headers.items (with_tree c.args.number t b)) (sym c.in_ok-add_one.ensures.ok)
    (added (side_lists c.args.self.now.lists) c.args.self.now.nodes.items c.args.self.now.headers.items b c.args.number t _ h c.requires e)
