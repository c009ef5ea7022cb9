use Rattle.range_ends.specs.proving.Noted.{AreFound}
use Rattle.range_ends.proofs.finder.find_ranges.Given as goal

abbrev pub invariant-loop-range : goal.invariant-loop-range
invariant-loop-range l = AreFound l.course.linked.now.program l.course.target.now l.finder
