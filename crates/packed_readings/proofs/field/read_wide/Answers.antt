use Rattle.std.proofs.Common.{arith}
use Rattle.bits.specs.Left.{bits_left}
use Rattle.packed_readings.proofs.Judging.{wide_left, wide_at}
use Rattle.packed_readings.proofs.field.read_wide.Goals as goal

pub take-low-requires-clause-left : goal.take-low-requires-clause-left
take-low-requires-clause-left c =
    wide_left c.args.width c.take-high.result (bits_left c.args.bits.now) (bits_left c.take-high.new.self) c.take-high.ensures.taken
    (omega (arith, c.if-len-width.false, c.len.ensures)) c.if-width-le64.false

pub returns : goal.returns
returns c =
    wide_at c.args.width c.take-high.result c.take-low.result (bits_left c.args.bits.now) (bits_left c.take-high.new.self) (bits_left c.take-low.new.self)
    c.if-width-le64.false c.take-high.ensures.taken c.take-low.ensures.taken c.take-high.ensures.small c.take-low.ensures.small
