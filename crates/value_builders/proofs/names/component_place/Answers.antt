use Rattle.std.proofs.Common.{arith, map, sym, ◌∙◌}
use Rattle.asn_base.specs.Seen.{component_of}
use Rattle.value_builders.specs.Named.{component_names}
use Rattle.value_builders.proofs.Places.{seen_by, place_at, place_past, no_place}
use Rattle.value_builders.proofs.names.component_place.Goals as goal
use Rattle.asn_base.specs.proving.Lists.{seen_here, length_mapped}

pub returns-then-is_component : goal.returns-then-is_component
returns-then-is_component c =
    let here = seen_by (λ x. x.name) (map component_of c.args.components.now) c.loop-i.i (component_of c.index-components-i.result)
    (seen_here component_of c.args.components.now c.loop-i.i c.index-components-i.result c.loop-i-test.true c.index-components-i.is) in
    sym (place_at c.args.name.now (component_names (map component_of c.args.components.now)) c.loop-i.i (component_of c.index-components-i.result).name c.loop-i.invariant here (sym c.is_component.ensures ∙ c.if-is_component.true))

pub loop-i-preserved : goal.loop-i-preserved
loop-i-preserved c =
    let here = seen_by (λ x. x.name) (map component_of c.args.components.now) c.loop-i.i (component_of c.index-components-i.result)
    (seen_here component_of c.args.components.now c.loop-i.i c.index-components-i.result c.loop-i-test.true c.index-components-i.is) in
    place_past c.args.name.now (component_names (map component_of c.args.components.now)) c.loop-i.i (component_of c.index-components-i.result).name c.loop-i.invariant here (sym c.is_component.ensures ∙ c.if-is_component.false)

pub returns : goal.returns
returns c =
    let long = length_mapped (λ x. x.name) (map component_of c.args.components.now) in
    let long' = length_mapped component_of c.args.components.now in
    let l = c.loop-i-test.false in
    sym (no_place c.args.name.now (component_names (map component_of c.args.components.now)) c.loop-i.i c.loop-i.invariant (omega (arith, long, long', l)))
