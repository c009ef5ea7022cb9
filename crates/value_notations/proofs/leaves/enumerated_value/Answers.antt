use mir.Val.{SFits}
use Rattle.std.specs.Int.{w128}
use Rattle.std.proofs.lemmas.Int.{to_z-of_z}
use Rattle.std.proofs.Common.{◌≡◌, ◌∙◌, Some, ap, sym, subst, option_map, rules}
use Rattle.std.specs.Prelude.{slice_get}
use Rattle.names.specs.Modules.{OccursIn}
use Rattle.names.specs.Names.{names_of}
use Rattle.resolve.specs.Listed.{items_listed}
use Rattle.asn_base.specs.Abstract.{AbstractValue, enumerated}
use Rattle.trees.specs.Values.{tree_of}
use Rattle.trees.specs.Types.{an_enumerated}
use Rattle.type_table.specs.Seen.{root_items, after_marker}
use Rattle.value_notations.specs.Faults.{IsLeafValue}
use Rattle.value_notations.proofs.LeafValues.{misfit_unnamed, value_item, numberless}
use Rattle.value_notations.proofs.leaves.enumerated_value.Goals as goal

pub returns-in-Ok-clause-value : goal.returns-in-Ok-clause-value
returns-in-Ok-clause-value c =
    let root = root_items c.args.given.now in
    let more = after_marker c.args.given.now in
    let n = tree_of c.args.notation.now in
    let f : SFits w128 c.in-Ok.number = search rules in
    subst (λ (v : AbstractValue). IsLeafValue (an_enumerated root more) n v)
    (sym (c.item_value.ensures ∙ ap enumerated (to_z-of_z w128 c.in-Ok.number f)))
    (value_item root more n c.in-Some.name.now c.in-Some-item.place c.in-Ok.number
    (sym c.name_in.ensures ∙ ap (option_map (λ x. x.now)) c.in-Some.is) (subst (λ k. slice_get (names_of (items_listed k)) c.in-Some-item.place ≡ Some c.in-Some.name.now) c.requires.is
    c.in-Some-item.ensures) c.in-Ok.ensures.number)

pub returns-in-Err-clause-fault : goal.returns-in-Err-clause-fault
returns-in-Err-clause-fault c =
    numberless (root_items c.args.given.now) (after_marker c.args.given.now) (tree_of c.args.notation.now) c.in-Some.name.now
    c.in-Some-item.place c.in-Err.fault c.requires.sound
    (sym c.name_in.ensures ∙ ap (option_map (λ x. x.now)) c.in-Some.is) (subst (λ k. slice_get (names_of (items_listed k)) c.in-Some-item.place ≡ Some c.in-Some.name.now) c.requires.is
    c.in-Some-item.ensures) c.in-Err.ensures.fault

pub returns-in-None-item-clause-fault : goal.returns-in-None-item-clause-fault
returns-in-None-item-clause-fault c =
    let x = c.in-Some.name.now in
    misfit_unnamed (root_items c.args.given.now) (after_marker c.args.given.now) (tree_of c.args.notation.now) x
    (sym c.name_in.ensures ∙ ap (option_map (λ x. x.now)) c.in-Some.is)
    (subst (λ k. OccursIn (names_of (items_listed k)) x → ⊥) c.requires.is c.in-None-item.ensures)
