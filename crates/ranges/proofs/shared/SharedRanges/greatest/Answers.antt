use Rattle.std.proofs.Common.{subst, ◌∙◌}
use Rattle.ranges.specs.Numbers.{AreApart}
use Rattle.ranges.proofs.Finds.{greatest_last}
use Rattle.ranges.proofs.shared.SharedRanges.greatest.Goals as goal

pub returns-in-Some : goal.returns-in-Some
returns-in-Some c =
    let f = c.last_in.ensures in
    greatest_last c.root.result.now c.in-Some.node c.deref.result.now _ f.0 c.args.self.now c.in-Some.is c.deref.ensures f.1
    (c.root.ensures ∙ c.self.view_is) (subst AreApart c.self.view_is c.self.invariant)
