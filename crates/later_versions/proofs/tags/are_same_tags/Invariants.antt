use Rattle.later_versions.proofs.Marks.{GotTo}
use Rattle.later_versions.proofs.tags.are_same_tags.Given as goal

abbrev pub invariant-loop-i : goal.invariant-loop-i
invariant-loop-i l = GotTo l.tags l.others l.i
