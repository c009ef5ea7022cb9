use Rattle.std.proofs.Common.{arith, ◌++◌, ◌∷◌, [], sym, ap, subst}
use Rattle.views.specs.Building.{opened}
use Rattle.views.specs.Nodes.{node}
use Rattle.views.specs.Seen.{AreBuilt, side_lists}
use Rattle.views.proofs.Steps.{opens}
use Rattle.views.proofs.builder.Builder.open.Goals as goal

pub returns : goal.returns
returns c b h a e =
    let s = side_lists c.args.self.now.lists in
    subst (λ q. AreBuilt s q c.add_one.new.list.items (opened c.args.number h b)) (sym c.in_ok-add_one-2.ensures.ok)
    (subst (λ q. AreBuilt s (c.args.self.now.nodes.items ++ record { number = c.args.number; content = c.args.content } ∷ []) q (opened c.args.number h b)) (sym c.in_ok-add_one.ensures.ok)
    (opens s c.args.self.now.nodes.items c.args.self.now.headers.items b c.args.number h _ c.len-place.result a c.requires (ap (node c.args.number) e) (omega (arith, c.len-place.ensures, c.args.self.now.nodes.ok.0)))
    )
