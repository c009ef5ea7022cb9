use Rattle.std.proofs.Common.{◌∙◌, ap, length, subst, sym, arith}
use Rattle.std.specs.Prelude.{slice_get}
use Rattle.std.proofs.lemmas.List.{length-map}
use Rattle.type_table.specs.declared.table.Shape.{Shape}
use Rattle.type_table.specs.Seen.{type_of}
use Rattle.typed_values.specs.proving.Reading.{HasShapeIn}
use Rattle.typed_values.proofs.Readings.{node_at, shape_of}
use Rattle.typed_values.proofs.written.written.Goals as goal

pub returns : goal.returns
returns c =
    let ws = c.types-types.result.now in
    let many = ap length c.types-types.ensures.types in
    let same = length-map ws type_of in
    let core = c.core-core.result.index in
    let there = c.core-core.ensures.there in
    let x = node_at ws core (omega (arith, many, same, there)) in
    subst (λ (s : Shape). HasShapeIn c.args.linked.now c.args.ty.index s c.home-home.result.module.now)
    (sym (c.shape.ensures x.0 (ap (λ ts. slice_get ts core) (sym c.types-types.ensures.written) ∙ x.1)))
    (shape_of ws c.args.ty.index core x.0 _ _ c.types-types.ensures.types c.types-types.ensures.written x.1
    c.core-core.ensures.core c.home-home.ensures)
