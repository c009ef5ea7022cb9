use Rattle.std.proofs.Common.{◌+◌}
use Rattle.range_ends.proofs.Doubling.{AreFirstFar}
use Rattle.range_ends.proofs.far.twice.Given as goal

abbrev pub invariant-loop-at : goal.invariant-loop-at
invariant-loop-at l = AreFirstFar l.target (l.steps + l.steps) l.all.items l.at
