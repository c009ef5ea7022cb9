use Rattle.ranges.proofs.Bits.{codes_ascend, codes_below}
use Rattle.ranges.proofs.codes.Codes.in_order.Goals as goal

pub returns-clause-ascend : goal.returns-clause-ascend
returns-clause-ascend c = rw (← c.self.view_is) (codes_ascend c.self.inside.bits)

pub returns-clause-below_128 : goal.returns-clause-below_128
returns-clause-below_128 c = rw (← c.self.view_is) (codes_below c.self.inside.bits)
