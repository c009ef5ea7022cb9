use Rattle.std.proofs.Common.{arith, ap, length, map, drop, ◌∙◌, subst, sym}
use Rattle.std.proofs.lemmas.List.{length-map}
use Rattle.std.proofs.lemmas.Result.{IfOk-weaker}
use Rattle.asn_base.specs.Seen.{item_of}
use Rattle.names.specs.Modules.{AreDifferent}
use Rattle.trees.specs.Types as trees
use Rattle.type_table.specs.Items.{numbers_of}
use Rattle.type_table.specs.Seen.{root_items, more_of}
use Rattle.settled.specs.schema_of.SchemaOf.{IsRootItem}
use Rattle.extensions.specs.proving.Items.{item_with, with_numbers}
use Rattle.extensions.proofs.Numbers.{differ}
use Rattle.extensions.proofs.Roots.{numbers_long, drop_distinct, root_members, ordered}
use Rattle.extensions.proofs.items.root.Goals as goal

pub numbered-requires : goal.numbered-requires
numbered-requires c =
    let g = c.args.given.now in
    let a = numbers_long (root_items g) (more_of g) c.args.numbers.now c.requires.numbers in
    let m = length-map g.root.items trees.item_of in
    let v = ap length c.deref.ensures.value in
    omega (arith, a, m, v)

pub in_order-requires : goal.in_order-requires
in_order-requires c =
    let g = c.args.given.now in
    let zs = c.args.numbers.now in
    let same = c.in-Ok.ensures ∙ ap (λ is. with_numbers (map trees.item_of is) zs) c.deref.ensures.value in
    differ c.in-Ok.all.items (root_items g) zs same
    (subst AreDifferent (sym c.requires.numbers) c.requires.sound.numbers)

pub returns-in-Ok-clause-members : goal.returns-in-Ok-clause-members
returns-in-Ok-clause-members c =
    let g = c.args.given.now in
    let all = map item_of c.in-Ok.all.items in
    let same = c.in-Ok.ensures ∙ ap (λ is. with_numbers (map trees.item_of is) c.args.numbers.now) c.deref.ensures.value
    ∙ ap (λ zs. with_numbers (root_items g) zs) c.requires.numbers in
    IfOk-weaker c.in_order.result _ _
    (λ v h x z. ordered (IsRootItem (root_items g) (more_of g) x z) (map item_of v.items) all (with_numbers (root_items g) (numbers_of (root_items g) (more_of g))) (item_with x z) (h (item_with x z)) same (root_members (root_items g) (more_of g) x z))
    c.in_order.ensures.members
