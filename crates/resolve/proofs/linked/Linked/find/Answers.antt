use Rattle.std.proofs.Common.{subst, ap, ◌∙◌, length, arith, refl}
use Rattle.std.proofs.lemmas.List.{length-map}
use Rattle.std.specs.Prelude.{option_map}
use Rattle.std.proofs.lemmas.Option.{slice_get-map, slice_get_read}
use Rattle.names.specs.declared.scope.Assigned.TheVariants as assigned
use Rattle.names.specs.Names.{Meaning}
use Rattle.names.specs.Sources.{value_seen}
use Rattle.resolve.proofs.linked.Linked.find.Goals as goal

pub index-requires : goal.index-requires
index-requires c =
    let m = subst (λ a. Meaning c.self.inside.names c.args.within.now c.args.name.now a) c.in-Some-Value.field-0-is ((c.find.ensures c.in-Some-Value.field-0).0 c.in-Some-Value.is) in
    let t = c.self.invariant.0.names c.args.within.now c.args.name.now (assigned.Value c.in-Some-Value.number) m in
    omega (arith, t, length-map c.self.inside.values.items value_seen)

pub returns-in-Some-Value : goal.returns-in-Some-Value
returns-in-Some-Value c =
    let m = subst (λ a. Meaning c.self.inside.names c.args.within.now c.args.name.now a) c.in-Some-Value.field-0-is ((c.find.ensures c.in-Some-Value.field-0).0 c.in-Some-Value.is) in
    let t = c.self.invariant.0.names c.args.within.now c.args.name.now (assigned.Value c.in-Some-Value.number) m in
    let here = slice_get_read c.self.inside.values.items (length c.self.inside.values.items) c.in-Some-Value.number c.index.result.now refl (omega (arith, t, length-map c.self.inside.values.items value_seen)) c.index.ensures in
    rw (← c.self.view_is) (c.in-Some-Value.number, m, value_seen c.index.result.now, slice_get-map value_seen c.self.inside.values.items c.in-Some-Value.number ∙ ap (option_map value_seen) here, refl)
