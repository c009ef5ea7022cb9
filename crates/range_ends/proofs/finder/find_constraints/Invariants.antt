use Rattle.range_ends.specs.proving.Noted.{AreFound}
use Rattle.range_ends.proofs.finder.find_constraints.Given as goal

abbrev pub invariant-loop-constraint : goal.invariant-loop-constraint
invariant-loop-constraint l = AreFound l.course.linked.now.program l.course.target.now l.finder
