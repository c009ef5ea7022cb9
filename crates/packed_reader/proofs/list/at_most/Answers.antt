use Rattle.std.proofs.Common.{◌∙◌}
use Rattle.bits.specs.Left.{bits_left}
use Rattle.packed_reader.specs.Lists.{at_most}
use Rattle.packed_reader.proofs.BitOrder.{fewer_left, numbers_apart, numbers_same, second_ended}
use Rattle.packed_reader.proofs.list.at_most.Goals as goal

pub returns-then-n-eq0 : goal.returns-then-n-eq0
returns-then-n-eq0 c =
    second_ended (bits_left c.loop-one.one) (bits_left c.loop-one.two) c.len.result c.len-in-loop-one.result c.len-in-loop-one-2.result c.min.result c.min-n.result
    c.all_clear.result (at_most (bits_left c.args.first) (bits_left c.args.second))
    c.len.ensures c.loop-one-test.true c.len-in-loop-one.ensures c.len-in-loop-one-2.ensures c.min.ensures c.min-n.ensures c.if-n-eq0.true c.all_clear.ensures c.loop-one.invariant

pub returns-then-left-right : goal.returns-then-left-right
returns-then-left-right c =
    numbers_apart c.min-n.result c.take-left.result c.take-right.result (bits_left c.loop-one.one) (bits_left c.loop-one.two) (bits_left c.take-left.new.self) (bits_left c.take-right.new.self)
    c.take-left.ensures.taken c.take-right.ensures.taken c.take-left.ensures.small c.take-right.ensures.small c.if-left-right.true
    ∙ c.loop-one.invariant

pub loop-one-smaller : goal.loop-one-smaller
loop-one-smaller c = fewer_left c.min-n.result c.take-left.result (bits_left c.loop-one.one) (bits_left c.take-left.new.self) c.take-left.ensures.taken c.if-n-eq0.false

pub loop-one-preserved : goal.loop-one-preserved
loop-one-preserved c =
    numbers_same c.min-n.result c.take-left.result c.take-right.result (bits_left c.loop-one.one) (bits_left c.loop-one.two) (bits_left c.take-left.new.self) (bits_left c.take-right.new.self)
    c.take-left.ensures.taken c.take-right.ensures.taken c.if-left-right.false
    ∙ c.loop-one.invariant
