use Rattle.std.proofs.Common.{arith, ◌<◌, ◌∙◌}
use Rattle.bits.specs.Left.{bits_left}
use Rattle.packed_reader.proofs.BitOrder.{ones_taken, some_taken, zeros_taken}
use Rattle.packed_reader.proofs.open.all_clear.Goals as goal

pub returns-then-number-ne0 : goal.returns-then-number-ne0
returns-then-number-ne0 c =
    ones_taken c.min-n.result c.take-number.result (bits_left c.loop-rest.rest) (bits_left c.take-number.new.self) c.take-number.ensures.taken c.take-number.ensures.small c.if-number-ne0.true
    ∙ c.loop-rest.invariant

pub loop-rest-smaller : goal.loop-rest-smaller
loop-rest-smaller c =
    let l = c.len.ensures in
    let m = c.len-in-loop-rest.ensures in
    let t = c.loop-rest-test.true in
    let some : 0 < c.len-in-loop-rest.result = omega (arith, l, m, t) in
    some_taken c.len-in-loop-rest.result c.min-n.result c.take-number.result (bits_left c.loop-rest.rest) (bits_left c.take-number.new.self) c.take-number.ensures.taken some c.min-n.ensures

pub loop-rest-preserved : goal.loop-rest-preserved
loop-rest-preserved c =
    zeros_taken c.min-n.result c.take-number.result (bits_left c.loop-rest.rest) (bits_left c.take-number.new.self) c.take-number.ensures.taken c.take-number.ensures.small c.if-number-ne0.false
    ∙ c.loop-rest.invariant
