use Rattle.std.proofs.Common.{subst, ◌∙◌}
use Rattle.ranges.specs.Numbers.{AreApart}
use Rattle.ranges.proofs.Finds.{empty_means}
use Rattle.ranges.proofs.shared.SharedRanges.is_empty.Goals as goal

pub returns-clause-members : goal.returns-clause-members
returns-clause-members c =
    empty_means c.root.result.now c.is_none.result c.args.self.now c.is_none.ensures (c.root.ensures ∙ c.self.view_is)
    (subst AreApart c.self.view_is c.self.invariant)
