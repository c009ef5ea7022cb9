use Rattle.std.proofs.Common.{◌∷◌, [], ◌++◌, map, ap, ◌∙◌, arith}
use Rattle.std.proofs.lemmas.List.{take_all}
use Rattle.trees.specs.Values.{member_of}
use Rattle.value_notations.specs.Notations.{field_names}
use Rattle.values.specs.Arranged.{first_place}
use Rattle.values.proofs.Lookups.{place_in, places_all, places_more}
use Rattle.values.proofs.lookup.places.Goals as goal

pub loop-component-preserved : goal.loop-component-preserved
loop-component-preserved c =
    let fs = field_names (map member_of c.args.fields.now) in
    let cs = c.args.components.now in
    let i = c.loop-component.component-index in
    let f = c.component-item.result in
    let more = places_more c.loop-component.places.items (place_in fs) cs i f
    (omega (arith, c.loop-component-test.true, c.loop-component.auto.component-index-end)) c.component-item.is
    c.loop-component.invariant in
    let found = c.field_of.ensures ∙ ap (λ x. first_place x fs) c.as_str.ensures.value in
    c.in_ok-push.ensures.items ∙ ap (λ o. c.loop-component.places.items ++ o ∷ []) found ∙ more

pub returns : goal.returns
returns c =
    let fs = field_names (map member_of c.args.fields.now) in
    let cs = c.args.components.now in
    let i = c.loop-component.component-index in
    let all = take_all i cs (omega (arith, c.loop-component-test.false, c.loop-component.auto.component-index-end)) in
    c.loop-component.invariant ∙ ap (map (place_in fs)) all ∙ places_all fs cs
