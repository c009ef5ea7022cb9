use Rattle.std.proofs.Common.{◌+◌, ap, sym, ◌∙◌, subst, map, take, option_map, arith, List, ℕ, refl}
use Rattle.std.proofs.lemmas.Option.{slice_get_read}
use Rattle.trees.specs.Values.{tree_of, trees, no_tree}
use Rattle.type_table.specs.Seen.{kind_of}
use Rattle.resolve.specs.Listed.{bits_listed}
use Rattle.value_notations.specs.Leaves.{AreBitNames}
use Rattle.value_notations.specs.Leaves as leaves
use Rattle.value_notations.proofs.Lists.{seen_here}
use Rattle.value_notations.proofs.NamedBits.{names_step, names_wrong, names_lost, first_lost}
use Rattle.value_notations.proofs.bit_strings.places_of.Goals as goal

pub loop-name-init : goal.loop-name-init
loop-name-init c =
    subst (λ (z : List ℕ). AreBitNames (bits_listed (kind_of c.args.shape.now)) no_tree z) (sym c.new-places.ensures.items) leaves.no_bit

pub returns-in-None-clause-fault : goal.returns-in-None-clause-fault
returns-in-None-clause-fault c =
    let here = seen_here tree_of c.args.names.now c.loop-name.name-index c.name-item.result
    (omega (arith, c.loop-name-test.true, c.loop-name.auto.name-index-end)) c.name-item.is in
    names_wrong (bits_listed (kind_of c.args.shape.now)) (map tree_of c.args.names.now) c.loop-name.places.items
    c.loop-name.name-index (tree_of c.name-item.result) c.loop-name.invariant here
    (sym c.name_in.ensures ∙ ap (option_map (λ x. x.now)) c.in-None.is)

pub returns-in-None-bit_place-clause-fault : goal.returns-in-None-bit_place-clause-fault
returns-in-None-bit_place-clause-fault c =
    let here = seen_here tree_of c.args.names.now c.loop-name.name-index c.name-item.result
    (omega (arith, c.loop-name-test.true, c.loop-name.auto.name-index-end)) c.name-item.is in
    names_lost (bits_listed (kind_of c.args.shape.now)) (map tree_of c.args.names.now) c.loop-name.places.items
    c.loop-name.name-index (tree_of c.name-item.result) c.in-Some.word.now c.loop-name.invariant here
    (sym c.name_in.ensures ∙ ap (option_map (λ x. x.now)) c.in-Some.is)
    (sym c.bit_place.ensures ∙ c.in-None-bit_place.is)

pub returns-in-None-bit_place-clause-bit : goal.returns-in-None-bit_place-clause-bit
returns-in-None-bit_place-clause-bit c =
    let here = slice_get_read c.args.names.now _ c.loop-name.name-index c.name-item.result refl
    (omega (arith, c.loop-name-test.true, c.loop-name.auto.name-index-end)) c.name-item.is in
    first_lost (bits_listed (kind_of c.args.shape.now)) c.args.names.now c.loop-name.places.items c.loop-name.name-index
    c.name-item.result c.in-Some.word.now c.loop-name.invariant here
    (sym c.name_in.ensures ∙ ap (option_map (λ x. x.now)) c.in-Some.is)
    (sym c.bit_place.ensures ∙ c.in-None-bit_place.is)

pub loop-name-preserved : goal.loop-name-preserved
loop-name-preserved c =
    let here = seen_here tree_of c.args.names.now c.loop-name.name-index c.name-item.result
    (omega (arith, c.loop-name-test.true, c.loop-name.auto.name-index-end)) c.name-item.is in
    let more = names_step (bits_listed (kind_of c.args.shape.now)) (map tree_of c.args.names.now) c.loop-name.places.items
    c.loop-name.name-index (tree_of c.name-item.result) c.in-Some.word.now c.in-Some-bit_place.place
    c.loop-name.invariant here
    (sym c.name_in.ensures ∙ ap (option_map (λ x. x.now)) c.in-Some.is)
    (sym c.bit_place.ensures ∙ c.in-Some-bit_place.is) in
    subst
    (λ (z : List ℕ).
    AreBitNames (bits_listed (kind_of c.args.shape.now)) (trees (take (c.loop-name.name-index + 1) (map tree_of c.args.names.now))) z)
    (sym c.in-Ok.ensures.items) more
