use Rattle.std.proofs.Common.{[], string_bytes, refl}
use Rattle.std.specs.Prelude.{Some, None, ℕ, List}
use Rattle.views.specs.Building.{Building, Waiting, begun, opened, with_leaf, with_tree, open_fields, closes_fields}
use Rattle.views.specs.Tree.{ViewTree, fields, leaf, member, no_member, octets, text}
use Rattle.test_codec_answers.proofs.built.strings.Goals as goal

abbrev is_open : Building
is_open = opened 0 (open_fields 2) begun

abbrev with_octets : List ℕ → Building
with_octets os = with_leaf 0 (octets os (Some 4)) is_open

abbrev with_both : List ℕ → List ℕ → Building
with_both os bs = with_leaf 1 (text bs None) (with_octets os)

abbrev tree : List ℕ → List ℕ → ViewTree
tree os bs = fields 2 (member 0 (leaf (octets os (Some 4))) (member 1 (leaf (text bs None)) no_member))

pub finish-requires : goal.finish-requires
finish-requires c =
    let os = c.args.octets.now in
    let bs = string_bytes c.args.joined in
    let held = c.in_ok-push_joined_text.ensures (with_octets os) (c.in_ok-push_octets.ensures is_open (c.in_ok-open_fields.ensures begun c.new-builder.ensures)) in
    let w : Waiting = record { number = 0; header = open_fields 2; before = no_member } in (
      tree os bs,
      c.close.ensures (with_both os bs) (with_tree 0 (tree os bs) begun) w [] (tree os bs) held
          (record { is_open = refl; tree = closes_fields; closed = refl }),
    )

pub returns : goal.returns
returns c =
    let os = c.args.octets.now in
    let bs = string_bytes c.args.joined in
    let held = c.in_ok-push_joined_text.ensures (with_octets os) (c.in_ok-push_octets.ensures is_open (c.in_ok-open_fields.ensures begun c.new-builder.ensures)) in
    let w : Waiting = record { number = 0; header = open_fields 2; before = no_member } in
    c.finish.ensures (tree os bs)
    (c.close.ensures (with_both os bs) (with_tree 0 (tree os bs) begun) w [] (tree os bs) held
    (record { is_open = refl; tree = closes_fields; closed = refl }))
