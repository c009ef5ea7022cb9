use Rattle.std.proofs.Common.{arith, ◌≡◌, ◌-◌, length, ap, ◌∙◌}
use Rattle.views.specs.Nodes.{node, with_extent}
use Rattle.views.specs.Seen.{side_lists, content_of}
use Rattle.views.proofs.Steps.{closes, place_within, none_open}
use Rattle.views.proofs.builder.Builder.close.Goals as goal

pub returns-then-place-length : goal.returns-then-place-length
returns-then-place-length c b d w ws t a cl =
    let s = side_lists c.args.self.now.lists in
    let n = c.index-node.result.now in
    let long : c.len-length.result ≡ length c.args.self.now.nodes.items = omega (arith, c.len-length.ensures, c.args.self.now.nodes.ok.0) in
    closes s c.args.self.now.nodes.items c.args.self.now.headers.items c.pop.new.self.items c.in-Some.place _ n b d w ws t a c.in-Some.ensures.items c.index-node.ensures
    (ap (node n.number) (c.with_extent-content.ensures.content s) ∙ ap (λ q. node n.number (with_extent (content_of s n.content) (q - c.in-Some.place))) long)
    (c.with_extent-content.ensures.within s) cl

pub returns-else-place-length : goal.returns-else-place-length
returns-else-place-length c b d w ws t a cl =
    let inside = place_within (side_lists c.args.self.now.lists) c.args.self.now.nodes.items c.args.self.now.headers.items c.pop.new.self.items c.in-Some.place b a c.in-Some.ensures.items in
    absurd (omega (arith, inside, c.len-length.ensures, c.args.self.now.nodes.ok.0, c.if-place-length.false))

pub returns-in-None : goal.returns-in-None
returns-in-None c b d w ws t a cl = absurd (none_open c.args.self.now.headers.items b w ws a.places (omega (arith, c.in-None.ensures.cases.0, c.args.self.now.headers.ok.0)) cl.is_open)
