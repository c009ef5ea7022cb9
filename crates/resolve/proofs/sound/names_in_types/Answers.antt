use Rattle.std.proofs.Common.{◌<◌, length, refl, ap, arith, below_more}
use Rattle.std.proofs.lemmas.Option.{slice_get_read, slice_get_within}
use Rattle.std.proofs.lemmas.Result.{err_from_is_err_and}
use Rattle.type_table.specs.Seen.{type_of}
use Rattle.type_table.specs.proving.Tables.{as_long}
use Rattle.resolve.specs.First.{TypeMeans}
use Rattle.resolve.specs.Places.{type_places}
use Rattle.resolve.proofs.Exclusion.{type_means, type_fault, turn_there}
use Rattle.resolve.proofs.Exclusion.{first_type, moved_places}
use Rattle.resolve.proofs.sound.names_in_types.Goals as goal

pub returns-in_err-names_in_type-clause-fault : goal.returns-in_err-names_in_type-clause-fault
returns-in_err-names_in_type-clause-fault c =
    let w = c.index-types-index.result in
    let there = turn_there type_of c.types-types.result.now c.args.linked.now.program.types c.loop-index.index w c.types-types.ensures.types c.loop-index-test.true c.index-types-index.is in
    let p = err_from_is_err_and c.from_residual.result c.from_residual.ensures.1 in
    rw (p.1, p.2) (type_fault c.args.linked.now.program c.loop-index.index (type_of w) (type_places w) c.home-home.result.module.now c.home-home.result.name.now c.in_err-names_in_type.field-0.0 there (c.home-home.ensures (type_of w) there) c.in_err-names_in_type.ensures)

pub loop-index-preserved : goal.loop-index-preserved
loop-index-preserved c =
    let w = c.index-types-index.result in
    let there = turn_there type_of c.types-types.result.now c.args.linked.now.program.types c.loop-index.index w c.types-types.ensures.types c.loop-index-test.true c.index-types-index.is in
    below_more (TypeMeans c.args.linked.now.program) c.loop-index.index c.loop-index.invariant
    (type_means c.args.linked.now.program c.loop-index.index (type_of w) c.home-home.result.module.now c.home-home.result.name.now there (c.home-home.ensures (type_of w) there) c.in_ok-names_in_type.ensures.mean)

pub returns-clause-good : goal.returns-clause-good
returns-clause-good c = λ k t M x e a.
    let j = slice_get_within c.args.linked.now.program.types k t e in
    let within : k < c.loop-index.index = omega (arith, j, as_long c.types-types.result.now, ap length c.types-types.ensures.types, c.loop-index-test.false) in
    c.loop-index.invariant k within t M x e a

pub returns-in_err-names_in_type-clause-first : goal.returns-in_err-names_in_type-clause-first
returns-in_err-names_in_type-clause-first c =
    let p = c.args.linked.now.program in
    let ws = c.types-types.result.now in
    let i = c.loop-index.index in
    let w = c.index-types-index.result in
    let there = turn_there type_of ws p.types i w c.types-types.ensures.types c.loop-index-test.true c.index-types-index.is in
    let r = err_from_is_err_and c.from_residual.result c.from_residual.ensures.1 in
    rw (r.1, r.2) (moved_places p ws c.args.linked.now.types c.values-values.result.now c.args.linked.now.values c.in_err-names_in_type.field-0.0 c.types-types.ensures.written c.values-values.ensures.written (first_type p ws c.values-values.result.now c.requires.lists c.requires.circles i w c.home-home.result.module.now c.home-home.result.name.now c.in_err-names_in_type.field-0.0
    (slice_get_read ws (length ws) i w refl c.loop-index-test.true c.index-types-index.is) (c.home-home.ensures (type_of w) there) c.loop-index.invariant c.in_err-names_in_type.ensures))
