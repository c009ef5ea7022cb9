use Rattle.std.proofs.Common.{arith, ◌≡◌, ◌∷◌, [], ◌++◌, length, map, get_or, string_bytes, sym, ap, ◌∙◌, length-append}
use Rattle.std.specs.Prelude.{None}
use Rattle.std.proofs.lemmas.List.{map-append}
use Rattle.views.specs.Tree.{leaf, text}
use Rattle.views.specs.Nodes.{a_leaf, node}
use Rattle.views.specs.Seen.{side_lists}
use Rattle.views.proofs.Steps.{built_steady, texts_added}
use Rattle.views.proofs.Ranges.{get_added}
use Rattle.views.proofs.Filled.{length_same}
use Rattle.views.proofs.builder.Builder.push_joined_text.Goals as goal

pub add-requires : goal.add-requires
add-requires c =
    let old = c.args.self.now.lists.texts.items in
    let more = ap length c.in_ok-place.ensures.added in
    let long = length_same string_bytes c.add_text.new.self.texts.items in
    let l = length-append old (c.args.value ∷ []) in
    omega (arith, more, long, l, c.in_ok-place.ensures.from)

pub returns : goal.returns
returns c b h =
    let old = c.args.self.now.lists.texts.items in
    let a = side_lists c.args.self.now.lists in
    let d = side_lists c.add_text.new.self in
    let added = ap (map string_bytes) c.in_ok-place.ensures.added ∙ map-append string_bytes old (c.args.value ∷ []) in
    let place : c.in_ok-place.place ≡ length (map string_bytes old) = c.in_ok-place.ensures.from ∙ sym (length_same string_bytes old) in
    c.in_ok-add.ensures b (leaf (text (string_bytes c.args.value) None))
    (built_steady a d c.args.self.now.nodes.items c.args.self.now.headers.items b (texts_added a d (string_bytes c.args.value ∷ []) c.in_ok-place.ensures.octets added c.in_ok-place.ensures.arcs) h)
    (ap (λ q. node c.args.number (a_leaf (text q None)) ∷ [])
    (sym (ap (λ q. get_or q c.in_ok-place.place []) added
    ∙ ap (λ q. get_or (map string_bytes old ++ string_bytes c.args.value ∷ []) q []) place
    ∙ get_added (map string_bytes old) (string_bytes c.args.value) [])))
