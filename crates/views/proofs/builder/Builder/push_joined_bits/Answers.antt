use Rattle.std.proofs.Common.{arith, ◌≡◌, ◌∷◌, [], length, map, string_bytes, None, sym, ap}
use Rattle.std.specs.Prelude.{None}
use Rattle.views.specs.Tree.{leaf, bits}
use Rattle.views.specs.Nodes.{a_leaf, node}
use Rattle.views.specs.Seen.{side_lists}
use Rattle.views.proofs.Steps.{built_steady, octets_added, range_within, range_is, no_more}
use Rattle.views.proofs.builder.Builder.push_joined_bits.Goals as goal

pub add-requires : goal.add-requires
add-requires c =
    let long : c.len-to.result ≡ length c.add_octets.new.self.octets.items = omega (arith, c.len-to.ensures, c.add_octets.new.self.octets.ok.0) in
    (range_within c.args.self.now.lists.octets.items c.args.value.now c.add_octets.new.self.octets.items c.in_ok-from.from c.len-to.result c.in_ok-from.ensures.added c.in_ok-from.ensures.from long, c.requires.few_unused, λ e. c.requires.unused_in_octets (no_more c.args.self.now.lists.octets.items c.args.value.now c.add_octets.new.self.octets.items c.in_ok-from.from c.len-to.result c.in_ok-from.ensures.added c.in_ok-from.ensures.from long e))

pub returns : goal.returns
returns c b h =
    let a = side_lists c.args.self.now.lists in
    let d = side_lists c.add_octets.new.self in
    let long : c.len-to.result ≡ length c.add_octets.new.self.octets.items = omega (arith, c.len-to.ensures, c.add_octets.new.self.octets.ok.0) in
    c.in_ok-add.ensures b (leaf (bits c.args.unused c.args.value.now None))
    (built_steady a d c.args.self.now.nodes.items c.args.self.now.headers.items b (octets_added a d c.args.value.now c.in_ok-from.ensures.added (ap (map string_bytes) c.in_ok-from.ensures.texts) c.in_ok-from.ensures.arcs) h)
    (ap (λ q. node c.args.number (a_leaf (bits c.args.unused q None)) ∷ []) (sym (range_is c.args.self.now.lists.octets.items c.args.value.now c.add_octets.new.self.octets.items c.in_ok-from.from c.len-to.result c.in_ok-from.ensures.added c.in_ok-from.ensures.from long)))
