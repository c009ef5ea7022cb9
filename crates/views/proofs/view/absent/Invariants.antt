use Rattle.views.specs.Rows.{AreAbsent}
use Rattle.views.proofs.view.absent.Given as goal

abbrev pub invariant-loop-i : goal.invariant-loop-i
invariant-loop-i l = AreAbsent l.i l.values.items
