use Rattle.std.proofs.Common.{arith, map, ◌-◌, ◌<◌, length}
use Rattle.std.proofs.lemmas.List.{length-map}
use Rattle.asn_base.specs.Seen.{component_of}
use Rattle.later_versions.proofs.Fronts.{mapped_at, no}
use Rattle.later_versions.proofs.Marks.{joined_before, not_joined, not_joined_past}
use Rattle.later_versions.proofs.components.is_joined.Goals as goal

pub returns-then-place-eq0 : goal.returns-then-place-eq0
returns-then-place-eq0 c = no (not_joined (map component_of c.args.components.now) c.args.place c.if-place-eq0.true)

pub returns-then-place-components : goal.returns-then-place-components
returns-then-place-components c =
    let n = length-map c.args.components.now component_of in
    let l = c.if-place-components.true in
    no (not_joined_past (map component_of c.args.components.now) c.args.place (omega (arith, n, l)))

pub returns : goal.returns
returns c =
    let some : 0 < c.args.place = (let n = c.if-place-eq0.false in omega (arith, n)) in
    let before : c.args.place - 1 < length c.args.components.now = (let l = c.if-place-components.false in omega (arith, l)) in
    joined_before (map component_of c.args.components.now) c.args.place (component_of c.index-components-place.result) (component_of c.index-components-place-2.result) some
    (mapped_at component_of c.args.components.now (c.args.place - 1) c.index-components-place.result before c.index-components-place.is)
    (mapped_at component_of c.args.components.now c.args.place c.index-components-place-2.result c.if-place-components.false c.index-components-place-2.is)
    c.are_of_one.ensures
