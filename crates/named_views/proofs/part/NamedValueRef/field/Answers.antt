use Rattle.std.proofs.Common.{arith, map, sym, ap, ◌∙◌}
use Rattle.asn_base.specs.Seen.{component_of, kind_of}
use Rattle.value_builders.specs.Named.{kind_at}
use Rattle.views.specs.Tree.{component, members_in}
use Rattle.named_views.specs.Typed.{Typed}
use Rattle.named_views.proofs.Trees.{place_small, place_in}
use Rattle.named_views.proofs.part.NamedValueRef.field.Goals as goal
use Rattle.asn_base.specs.proving.Lists.{seen_here}

pub overflow_cast-place : goal.overflow_cast-place
overflow_cast-place c =
    let s = place_small c.self.inside.schema.now (kind_of c.in-Some.core.now) (map component_of c.in-Some-components_of.components.now) c.args.name.now c.in-Some-component_place.place c.in-Some.ensures.sound c.in-Some-components_of.ensures (sym c.in-Some-component_place.ensures) in
    omega (arith, s.1)

pub offset_bounds-components-place : goal.offset_bounds-components-place
offset_bounds-components-place c =
    let s = place_small c.self.inside.schema.now (kind_of c.in-Some.core.now) (map component_of c.in-Some-components_of.components.now) c.args.name.now c.in-Some-component_place.place c.in-Some.ensures.sound c.in-Some-components_of.ensures (sym c.in-Some-component_place.ensures) in
    omega (arith, s.1)

pub bounds-components-place : goal.bounds-components-place
bounds-components-place c = place_in c.in-Some-components_of.components.now c.args.name.now c.in-Some-component_place.place c.in-Some-component_place.ensures

pub bounds-components-place-in-Some-component : goal.bounds-components-place-in-Some-component
bounds-components-place-in-Some-component c = place_in c.in-Some-components_of.components.now c.args.name.now c.in-Some-component_place.place c.in-Some-component_place.ensures

pub returns : goal.returns
returns c =
    let l = place_in c.in-Some-components_of.components.now c.args.name.now c.in-Some-component_place.place c.in-Some-component_place.ensures in
    record {
      components = map component_of c.in-Some-components_of.components.now;
      of = record {
        kind = kind_of c.in-Some.core.now;
        is = ap (λ (q : Typed). kind_at q.schema q.type) (sym c.self.view_is) ∙ c.in-Some.ensures.is;
        are = c.in-Some-components_of.ensures;
      };
      place = c.in-Some-component_place.place;
      named = sym c.in-Some-component_place.ensures;
      component = component_of c.index-components-place.result;
      at = seen_here component_of c.in-Some-components_of.components.now c.in-Some-component_place.place c.index-components-place.result l c.index-components-place.is;
      there = ap (λ (q : Typed). component (members_in q.tree) c.in-Some-component_place.place) (sym c.self.view_is) ∙ sym c.in-Some-component.ensures;
      type = ap (λ q. q.ty.index) (sym c.index-components-place.is);
      schema = ap (λ (q : Typed). q.schema) c.self.view_is;
    }
