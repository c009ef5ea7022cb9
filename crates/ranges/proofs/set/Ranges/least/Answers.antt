use Rattle.std.proofs.Common.{◌<◌, length, subst, sym}
use Rattle.ranges.specs.Numbers.{AreApart}
use Rattle.ranges.proofs.Ends.{first_least}
use Rattle.ranges.proofs.set.Ranges.least.Goals as goal

pub returns : goal.returns
returns c =
    let is = c.ranges-ranges.ensures.is in
    rw (← is)
    (first_least c.ranges-ranges.result.now _ (subst (λ xs. 0 < length xs) (sym is) c.requires)
    (subst AreApart (sym is) c.ranges-ranges.ensures.apart))
