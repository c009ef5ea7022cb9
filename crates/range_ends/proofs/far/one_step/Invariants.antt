use Rattle.range_ends.proofs.Doubling.{AreFirstFar}
use Rattle.range_ends.proofs.far.one_step.Given as goal

abbrev pub invariant-loop-at : goal.invariant-loop-at
invariant-loop-at l = AreFirstFar l.target 1 l.all.items l.at
