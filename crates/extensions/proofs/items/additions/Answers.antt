use Rattle.std.proofs.Common.{arith, ap, length, map, drop, ◌∙◌, subst, sym, ◌≡◌}
use Rattle.std.proofs.lemmas.List.{length-map}
use Rattle.std.proofs.lemmas.Result.{IfOk-weaker}
use Rattle.asn_base.specs.Seen.{item_of}
use Rattle.names.specs.Modules.{AreDifferent}
use Rattle.trees.specs.Types as trees
use Rattle.type_table.specs.Items.{numbers_of}
use Rattle.type_table.specs.Seen.{root_items, more_of}
use Rattle.settled.specs.schema_of.SchemaOf.{IsAddedItem}
use Rattle.extensions.specs.proving.Items.{item_with, with_numbers}
use Rattle.extensions.proofs.Numbers.{differ}
use Rattle.extensions.proofs.Roots.{numbers_long, drop_distinct, added_members, ordered}
use Rattle.extensions.proofs.items.additions.Goals as goal

pub numbered-requires : goal.numbered-requires
numbered-requires c =
    let g = c.args.given.now in
    let a = numbers_long (root_items g) (more_of g) c.args.numbers.now c.requires.numbers in
    let m = length-map g.root.items trees.item_of in
    let n = length-map c.items_after.result.now trees.item_of in
    let v = ap length c.items_after.ensures in
    omega (arith, a, m, n, v, c.len.ensures)

pub in_order-requires : goal.in_order-requires
in_order-requires c =
    let g = c.args.given.now in
    let k = c.len.result in
    let zs = c.args.numbers.now in
    let same = c.in-Ok.ensures ∙ ap (λ is. with_numbers is (drop k zs)) c.items_after.ensures in
    differ c.in-Ok.all.items (more_of g) (drop k zs) same
    (drop_distinct zs k (subst AreDifferent (sym c.requires.numbers) c.requires.sound.numbers))

pub returns-in-Ok-clause-members : goal.returns-in-Ok-clause-members
returns-in-Ok-clause-members c =
    let g = c.args.given.now in
    let k = c.len.result in
    let all = map item_of c.in-Ok.all.items in
    let same = c.in-Ok.ensures ∙ ap (λ is. with_numbers is (drop k c.args.numbers.now)) c.items_after.ensures
    ∙ ap (λ zs. with_numbers (more_of g) (drop k zs)) c.requires.numbers in
    let m = length-map g.root.items trees.item_of in
    let long : k ≡ length (root_items g) = omega (arith, m, c.len.ensures) in
    IfOk-weaker c.in_order.result _ _
    (λ v h x z. ordered (IsAddedItem (root_items g) (more_of g) x z) (map item_of v.items) all (with_numbers (more_of g) (drop k (numbers_of (root_items g) (more_of g)))) (item_with x z) (h (item_with x z)) same (added_members (root_items g) (more_of g) k x z long))
    c.in_order.ensures.members
