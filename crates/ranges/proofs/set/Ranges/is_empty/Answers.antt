use Rattle.std.proofs.Common.{subst, sym}
use Rattle.ranges.specs.Numbers.{AreApart}
use Rattle.ranges.proofs.Ends.{none_if_empty}
use Rattle.ranges.proofs.set.Ranges.is_empty.Goals as goal

pub returns-clause-members : goal.returns-clause-members
returns-clause-members c =
    let is = c.ranges-2.ensures.is in
    rw (← is)
    (none_if_empty c.ranges-2.result.now c.is_empty.result (subst AreApart (sym is) c.ranges-2.ensures.apart) c.is_empty.ensures)
