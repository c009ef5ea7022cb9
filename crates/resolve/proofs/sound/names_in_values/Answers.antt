use Rattle.std.proofs.Common.{◌<◌, length, refl, ap, arith, below_more}
use Rattle.std.proofs.lemmas.List.{length-map}
use Rattle.std.proofs.lemmas.Option.{slice_get_read, slice_get_within}
use Rattle.std.proofs.lemmas.Result.{err_from_is_err_and}
use Rattle.names.specs.Sources.{value_seen}
use Rattle.resolve.specs.First.{ValueMeans}
use Rattle.resolve.specs.Places.{value_places}
use Rattle.resolve.proofs.Exclusion.{value_means, value_fault, turn_there}
use Rattle.resolve.proofs.Exclusion.{first_value, moved_places}
use Rattle.resolve.proofs.sound.names_in_values.Goals as goal

pub assigned-home-requires : goal.assigned-home-requires
assigned-home-requires c =
    (c.lemma_whole.ensures.valued c.loop-value.value-index (value_seen c.value-item.result) (turn_there value_seen c.values-values.result.now c.args.linked.now.program.values c.loop-value.value-index c.value-item.result c.values-values.ensures.values c.loop-value-test.true c.value-item.is)).1

pub returns-in_err-names_in_value-clause-fault : goal.returns-in_err-names_in_value-clause-fault
returns-in_err-names_in_value-clause-fault c =
    let p = err_from_is_err_and c.from_residual.result c.from_residual.ensures.1 in
    rw (p.1, p.2) (value_fault c.args.linked.now.program c.loop-value.value-index (value_seen c.value-item.result) (value_places c.value-item.result.syntax) c.assigned-home.result.module.now c.assigned-home.result.name.now c.in_err-names_in_value.field-0.0
    (turn_there value_seen c.values-values.result.now c.args.linked.now.program.values c.loop-value.value-index c.value-item.result c.values-values.ensures.values c.loop-value-test.true c.value-item.is) c.assigned-home.ensures c.in_err-names_in_value.ensures)

pub loop-value-preserved : goal.loop-value-preserved
loop-value-preserved c =
    below_more (ValueMeans c.args.linked.now.program) c.loop-value.value-index c.loop-value.invariant
    (value_means c.args.linked.now.program c.loop-value.value-index (value_seen c.value-item.result) c.assigned-home.result.module.now c.assigned-home.result.name.now
    (turn_there value_seen c.values-values.result.now c.args.linked.now.program.values c.loop-value.value-index c.value-item.result c.values-values.ensures.values c.loop-value-test.true c.value-item.is) c.assigned-home.ensures c.in_ok-names_in_value.ensures.mean)

pub returns-clause-good : goal.returns-clause-good
returns-clause-good c = λ k v M x e a.
    let j = slice_get_within c.args.linked.now.program.values k v e in
    let within : k < c.loop-value.value-index = omega (arith, j, length-map c.values-values.result.now value_seen, ap length c.values-values.ensures.values, c.loop-value-test.false) in
    c.loop-value.invariant k within v M x e a

pub returns-in_err-names_in_value-clause-first : goal.returns-in_err-names_in_value-clause-first
returns-in_err-names_in_value-clause-first c =
    let p = c.args.linked.now.program in
    let vs = c.values-values.result.now in
    let i = c.loop-value.value-index in
    let v = c.value-item.result in
    let r = err_from_is_err_and c.from_residual.result c.from_residual.ensures.1 in
    rw (r.1, r.2) (moved_places p c.types-types.result.now c.args.linked.now.types vs c.args.linked.now.values c.in_err-names_in_value.field-0.0 c.types-types.ensures.written c.values-values.ensures.written (first_value p c.types-types.result.now vs c.requires.lists c.requires.circles i v c.assigned-home.result.module.now c.assigned-home.result.name.now c.in_err-names_in_value.field-0.0 c.requires.types
    (slice_get_read vs (length vs) i v refl c.loop-value-test.true c.value-item.is) c.assigned-home.ensures c.loop-value.invariant c.in_err-names_in_value.ensures))
