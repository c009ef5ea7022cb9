use mir.Syntax.{w128}
use mir.Val.{SFits, to_z, of_z}
use Rattle.std.proofs.Common.{rules, ◌≡◌, map, Some, None, sym, ap, subst, ◌∙◌}
use Rattle.std.specs.Prelude.{MatchOption}
use Rattle.std.proofs.lemmas.Int.{to_z-of_z}
use Rattle.value_text.proofs.Members.{name_first, name_after}
use Rattle.value_text.specs.Print.{name_with}
use Rattle.asn_base.specs.Seen.{item_of}
use Rattle.value_text.proofs.names.name_of_any.Goals as goal

pub returns-in-Some : goal.returns-in-Some
returns-in-Some c =
    let fits : SFits w128 c.args.number = search rules in
    let z = to_z-of_z w128 c.args.number fits in
    let root : name_with (map item_of c.args.items.now.root.items) c.args.number ≡ Some c.in-Some.name.now =
    ap (λ n. name_with (map item_of c.args.items.now.root.items) n) (sym z)
    ∙ ap (λ l. name_with (map item_of l) (to_z w128 (of_z w128 c.args.number))) (sym c.as_slice.ensures.value) ∙ c.in-Some.ensures in
    name_first (map item_of c.args.items.now.root.items) (map item_of c.args.items.now.additions.items) c.args.number _ root

pub returns-in-None : goal.returns-in-None
returns-in-None c =
    let fits : SFits w128 c.args.number = search rules in
    let z = to_z-of_z w128 c.args.number fits in
    let root : name_with (map item_of c.args.items.now.root.items) c.args.number ≡ None =
    ap (λ n. name_with (map item_of c.args.items.now.root.items) n) (sym z)
    ∙ ap (λ l. name_with (map item_of l) (to_z w128 (of_z w128 c.args.number))) (sym c.as_slice.ensures.value) ∙ c.in-None.ensures in
    let e = name_after (map item_of c.args.items.now.root.items) (map item_of c.args.items.now.additions.items) c.args.number root
    ∙ ap (λ n. name_with (map item_of c.args.items.now.additions.items) n) (sym z)
    ∙ ap (λ l. name_with (map item_of l) (to_z w128 (of_z w128 c.args.number))) (sym c.as_slice-in-None.ensures.value) in
    subst (λ o. MatchOption c.name_among-in-None.result (o ≡ None) (λ n. o ≡ Some n.now)) (sym e) c.name_among-in-None.ensures
