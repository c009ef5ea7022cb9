use Rattle.std.proofs.Common.{rules, ◌<◌, length, set, refl, ap, ◌∙◌, slice_index_or}
use Rattle.der_layout.specs.declared.table.Member.{Member}
use Rattle.der_layout.proofs.Placing.{next_places}
use Rattle.der_layout.proofs.places.places_of.Goals as goal

pub loop-place-preserved : goal.loop-place-preserved
loop-place-preserved c =
    let ms = c.args.members.now in
    let i = c.loop-place.place in
    let old = c.loop-place.places.items in
    let none : Member = record { rank = 0; number = 0; start = 0; end = 0 } in
    let m = slice_index_or ms i none in
    let l : i < length ms = (let n = c.loop-place-test.true in search rules) in
    next_places ms i m none old c.put_place.new.places.items l refl (c.put_place.ensures ∙ ap (λ q. set old m.number q) c.small.ensures) c.loop-place.invariant
