use Rattle.std.proofs.Common.{arith, refl, below_more}
use Rattle.std.proofs.lemmas.Option.{slice_get_within}
use Rattle.type_table.specs.Seen.{type_of, types_of}
use Rattle.circles.proofs.Rising.{rise_here}
use Rattle.type_table.specs.proving.Tables.{type_at, as_long}
use Rattle.circles.proofs.ranks.all_rise.Goals as goal

pub loop-ty-preserved : goal.loop-ty-preserved
loop-ty-preserved c =
    below_more _ _ c.loop-ty.invariant (λ t e.
    rise_here (types_of c.args.types.now) c.args.ranks.now c.loop-ty.ty c.rank_at.result (type_of c.index-types-ty.result) t
    (type_at c.args.types.now c.loop-ty.ty c.index-types-ty.result c.loop-ty-test.true c.index-types-ty.is) c.rank_at.ensures (c.if-not-parts_rise.ensures refl) e)

pub returns : goal.returns
returns c = λ r i t e.
    let l = slice_get_within (types_of c.args.types.now) i t e in
    c.loop-ty.invariant i (omega (arith, l, as_long c.args.types.now)) t e
