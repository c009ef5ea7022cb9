use mir.Syntax.{w128}
use mir.Val.{SFits, to_z}
use Rattle.std.proofs.Common.{rules, sym, ap, ◌∙◌}
use Rattle.std.proofs.lemmas.Int.{to_z-of_z}
use Rattle.std.proofs.lemmas.Bool.{eqb-true}
use Rattle.asn_base.proofs.Searched.{item_found}
use Rattle.asn_base.proofs.leaf.finds_item.Goals as goal

pub returns-in-Some : goal.returns-in-Some
returns-in-Some c = λ t.
    let f : SFits w128 c.in-Some.item.now.number = search rules in
    let same = to_z-of_z w128 c.args.number c.ranges.number in
    let is = sym (to_z-of_z w128 c.in-Some.item.now.number f) ∙ ap (to_z w128) (eqb-true _ _ t) ∙ same in
    item_found c.args.items.now _ c.in-Some.item.now c.args.number c.in-Some.ensures.lookup.3.0 c.in-Some.ensures.lookup.1 is
