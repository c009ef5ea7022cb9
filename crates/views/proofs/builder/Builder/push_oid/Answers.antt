use Rattle.std.proofs.Common.{arith, ◌≡◌, ◌∷◌, [], length, refl, sym, ap}
use Rattle.views.specs.Tree.{leaf, oid}
use Rattle.views.specs.Nodes.{a_leaf, node}
use Rattle.views.specs.Seen.{side_lists, with_arcs}
use Rattle.views.proofs.Steps.{built_steady, arcs_added, range_is}
use Rattle.views.proofs.builder.Builder.push_oid.Goals as goal

pub add-requires : goal.add-requires
add-requires c =
    let long : c.len-to.result ≡ length c.args.self.now.lists.arcs.items = omega (arith, c.len-to.ensures, c.args.self.now.lists.arcs.ok.0) in
    record { ordered = omega (arith, c.requires, long); within = omega (arith, long) }

pub returns : goal.returns
returns c b before arcs h e f =
    let s = side_lists c.args.self.now.lists in
    let a = with_arcs before s in
    let long : c.len-to.result ≡ length c.args.self.now.lists.arcs.items = omega (arith, c.len-to.ensures, c.args.self.now.lists.arcs.ok.0) in
    c.in_ok-add.ensures b (leaf (oid arcs))
    (built_steady a s c.args.self.now.nodes.items c.args.self.now.headers.items b (arcs_added a s arcs refl refl e) h)
    (ap (λ q. node c.args.number (a_leaf (oid q)) ∷ []) (sym (range_is before arcs c.args.self.now.lists.arcs.items c.args.from c.len-to.result e f long)))
