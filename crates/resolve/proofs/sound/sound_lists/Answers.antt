use Rattle.std.proofs.Common.{◌<◌, length, ap, arith, below_more}
use Rattle.std.proofs.lemmas.Option.{slice_get_within}
use Rattle.std.proofs.lemmas.Result.{err_from_is_err_and}
use Rattle.type_table.specs.Seen.{type_of}
use Rattle.type_table.specs.proving.Tables.{as_long}
use Rattle.resolve.proofs.Exclusion.{SoundAt, sound_at, kind_fault, turn_there}
use Rattle.std.proofs.Common.{refl}
use Rattle.std.proofs.lemmas.Option.{slice_get_read}
use Rattle.resolve.proofs.Exclusion.{first_list, moved_places}
use Rattle.resolve.proofs.sound.sound_lists.Goals as goal

pub returns-in_err-sound_shape-clause-fault : goal.returns-in_err-sound_shape-clause-fault
returns-in_err-sound_shape-clause-fault c =
    let there = turn_there type_of c.types-types.result.now c.args.linked.now.program.types c.loop-index.index c.index-types-index.result c.types-types.ensures.types c.loop-index-test.true c.index-types-index.is in
    let p = err_from_is_err_and c.from_residual.result c.from_residual.ensures.1 in
    rw (p.1, p.2) (kind_fault c.args.linked.now.program c.loop-index.index (type_of c.index-types-index.result) c.home-home.result.module.now c.home-home.result.name.now c.in_err-sound_shape.field-0.0 there (c.home-home.ensures (type_of c.index-types-index.result) there) c.in_err-sound_shape.ensures.sound)

pub loop-index-preserved : goal.loop-index-preserved
loop-index-preserved c =
    below_more (SoundAt c.args.linked.now.program) c.loop-index.index c.loop-index.invariant (sound_at c.args.linked.now.program c.loop-index.index (type_of c.index-types-index.result)
    (turn_there type_of c.types-types.result.now c.args.linked.now.program.types c.loop-index.index c.index-types-index.result c.types-types.ensures.types c.loop-index-test.true c.index-types-index.is) c.in_ok-sound_shape.ensures.sound)

pub returns-clause-good : goal.returns-clause-good
returns-clause-good c = λ k t e.
    let j = slice_get_within c.args.linked.now.program.types k t e in
    let within : k < c.loop-index.index = omega (arith, j, as_long c.types-types.result.now, ap length c.types-types.ensures.types, c.loop-index-test.false) in
    c.loop-index.invariant k within t e

pub returns-in_err-sound_shape-clause-first : goal.returns-in_err-sound_shape-clause-first
returns-in_err-sound_shape-clause-first c =
    let ws = c.types-types.result.now in
    let i = c.loop-index.index in
    let w = c.index-types-index.result in
    let there = turn_there type_of ws c.args.linked.now.program.types i w c.types-types.ensures.types c.loop-index-test.true c.index-types-index.is in
    let p = err_from_is_err_and c.from_residual.result c.from_residual.ensures.1 in
    rw (p.1, p.2) (moved_places c.args.linked.now.program ws c.args.linked.now.types c.values-values.result.now c.args.linked.now.values c.in_err-sound_shape.field-0.0 c.types-types.ensures.written c.values-values.ensures.written (first_list c.args.linked.now.program ws c.values-values.result.now i w c.home-home.result.module.now c.home-home.result.name.now c.in_err-sound_shape.field-0.0
    (slice_get_read ws (length ws) i w refl c.loop-index-test.true c.index-types-index.is) (c.home-home.ensures (type_of w) there) c.in_err-sound_shape.ensures.sound c.in_err-sound_shape.ensures.first c.loop-index.invariant))
