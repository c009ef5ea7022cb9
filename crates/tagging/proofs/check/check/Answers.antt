use Rattle.std.proofs.Common.{below_more, arith, ap, length, refl}
use Rattle.std.proofs.lemmas.List.{length-map}
use Rattle.std.proofs.lemmas.Option.{slice_get_read}
use Rattle.type_table.specs.Seen.{type_of}
use Rattle.tagging.proofs.Taggings.{all_good}
use Rattle.tagging.proofs.Firsts.{faultless, first_of}
use Rattle.tagging.proofs.check.check.Goals as goal

pub loop-ty-preserved : goal.loop-ty-preserved
loop-ty-preserved c =
    let ws = c.args.types.now in
    below_more _ _ c.loop-ty.invariant
    (faultless c.args.columns.now.program.types ws c.loop-ty.ty c.index-types-ty.result
    (slice_get_read ws (length ws) c.loop-ty.ty c.index-types-ty.result refl c.loop-ty-test.true c.index-types-ty.is)
    c.in-Ok.ensures.found c.in-Ok.ensures.first)

pub returns-clause-found : goal.returns-clause-found
returns-clause-found c =
    let n = length-map c.args.types.now type_of in
    let m = ap length c.requires.types in
    all_good c.args.columns.now.program.types (λ i l. (c.loop-ty.invariant i (omega (arith, l, n, m, c.loop-ty-test.false))).good)

pub returns-in-Err-clause-first : goal.returns-in-Err-clause-first
returns-in-Err-clause-first c =
    let ws = c.args.types.now in
    first_of c.args.columns.now.program.types ws c.loop-ty.ty c.index-types-ty.result c.in-Err.fault
    (slice_get_read ws (length ws) c.loop-ty.ty c.index-types-ty.result refl c.loop-ty-test.true c.index-types-ty.is)
    c.in-Err.ensures.first c.loop-ty.invariant
