use Rattle.std.proofs.Common.{arith, ◌≤◌, [], length}
use Rattle.std.proofs.lemmas.List.{drop_more}
use Rattle.bits.specs.Left.{bits_left}
use Rattle.packed_reader.specs.proving.Running.{run_presences}
use Rattle.packed_writer.specs.proving.Values.{fields_in}
use Rattle.packed_reader.proofs.Presences.{presences_step, presences_fields, presences_stop}
use Rattle.packed_reader.proofs.presence.read_presences.Goals as goal

pub loop-i-preserved : goal.loop-i-preserved
loop-i-preserved c =
    let ss = c.args.steps.now in
    let i = c.loop-i.i in
    let old = c.loop-i.sent.items in
    let new = c.push_presence.new.sent.items in
    let b = bits_left c.loop-i.bits in
    let r = bits_left c.push_presence.new.bits in
    let e = c.in-Ok.ensures.shorter in
    let f = c.loop-i.invariant.2 in (
      presences_step ss i _ old new b r (drop_more ss i _ c.loop-i-test.true) (run_presences [] (fields_in ss) (bits_left c.args.bits.now)) c.loop-i.invariant.0 c.in-Ok.ensures.ok,
      presences_fields ss i _ old new b r (drop_more ss i _ c.loop-i-test.true) (fields_in ss) c.loop-i.invariant.1 c.in-Ok.ensures.fields,
      (let k : length r ≤ length (bits_left c.args.bits.now) = omega (arith, e, f) in k),
    )

pub returns-in-Err-clause-err : goal.returns-in-Err-clause-err
returns-in-Err-clause-err c =
    presences_stop c.args.steps.now c.loop-i.i _ c.loop-i.sent.items c.push_presence.new.sent.items (bits_left c.loop-i.bits) (bits_left c.push_presence.new.bits)
    (drop_more c.args.steps.now c.loop-i.i _ c.loop-i-test.true) (run_presences [] (fields_in c.args.steps.now) (bits_left c.args.bits.now)) c.in-Err.stop c.loop-i.invariant.0 c.in-Err.ensures.err
