use Rattle.std.proofs.Common.{ap, sym, ◌∙◌, option_map, [], ◌∷◌, ◌++◌}
use Rattle.std.proofs.lemmas.Option.{slice_get-map}
use Rattle.type_table.specs.Seen.{types_of}
use Rattle.tagging.specs.proving.Columns.{all_automatic}
use Rattle.tagging.specs.Tags.{automatic_kind}
use Rattle.type_table.specs.proving.Tables.{type_at}
use Rattle.tagging.proofs.Tables.{take_next}
use Rattle.tagging.proofs.columns.automatic_of.Goals as goal

pub loop-ty-preserved : goal.loop-ty-preserved
loop-ty-preserved c =
    let ts = types_of c.args.types.now in
    let e = slice_get-map (λ t. automatic_kind ts t.kind t.default) ts c.loop-ty.ty ∙ ap (option_map (λ t. automatic_kind ts t.kind t.default)) (type_at c.args.types.now c.loop-ty.ty c.index-types-ty.result c.loop-ty-test.true c.index-types-ty.is) in
    c.in-Ok.ensures.items ∙ ap (λ x. x ++ c.numbers.result ∷ []) c.loop-ty.invariant ∙ rw c.numbers.ensures (sym (take_next (all_automatic ts) c.loop-ty.ty _ e))
