use mir.Syntax.{w128}
use mir.Val.{to_z, of_z}
use Rattle.std.proofs.Common.{◌≡◌, map, Some, sym, ap, ◌∙◌}
use Rattle.std.proofs.lemmas.Int.{to_z-of_z}
use Rattle.asn_base.specs.Seen.{item_of}
use Rattle.value_text.specs.Print.{name_with}
use Rattle.value_text.proofs.Items.{in_root, after_root}
use Rattle.value_text.proofs.names.name_of.Goals as goal

pub returns-in-Some : goal.returns-in-Some
returns-in-Some c =
    let z = to_z-of_z w128 c.args.number c.ranges.number in
    let root : name_with (map item_of c.args.items.now.root.items) c.args.number ≡ Some c.in-Some.name.now =
    ap (λ n. name_with (map item_of c.args.items.now.root.items) n) (sym z)
    ∙ ap (λ l. name_with (map item_of l) (to_z w128 (of_z w128 c.args.number))) (sym c.as_slice.ensures.value) ∙ c.in-Some.ensures in
    in_root _ _ c.args.number _ c.requires root

pub returns-in-Some-name_found : goal.returns-in-Some-name_found
returns-in-Some-name_found c =
    let z = to_z-of_z w128 c.args.number c.ranges.number in
    let more : name_with (map item_of c.args.items.now.additions.items) c.args.number ≡ Some c.in-Some-name_found.name.now =
    ap (λ n. name_with (map item_of c.args.items.now.additions.items) n) (sym z)
    ∙ ap (λ l. name_with (map item_of l) (to_z w128 (of_z w128 c.args.number))) (sym c.as_slice-2.ensures.value) ∙ c.in-Some-name_found.ensures in
    after_root _ _ c.args.number _ c.requires more
