use Rattle.std.proofs.Common.{rules, arith, ◌<◌, ◌≤◌, ◌^◌, length, get_or}
use Rattle.primitive_writer.proofs.Digits.{septets_from}
use Rattle.primitive_writer.proofs.len.all_septets.Goals as goal

pub loop-i-preserved : goal.loop-i-preserved
loop-i-preserved c =
    let some : c.loop-i.i < length c.args.numbers.now = (let n = c.loop-i-test.true in search rules) in
    let small : get_or c.args.numbers.now c.loop-i.i 0 < 2 ^ 64 = (let f = c.type_inv.numbers c.loop-i.i in search rules) in
    let few : c.septet_count-count.result ≤ 10 = c.septet_count-count.ensures.few small in
    (omega (arith, septets_from c.args.numbers.now c.loop-i.i some, c.septet_count-count.ensures.count, c.loop-i.invariant.0), omega (arith, few, c.loop-i.invariant.1))
