use Rattle.ranges.proofs.Bits.{member_both}
use Rattle.ranges.proofs.codes.Codes.meet.Goals as goal

pub returns : goal.returns
returns c x =
    rw (← c.self.view_is, ← c.other.view_is) (member_both c.self.inside.bits c.other.inside.bits x)
