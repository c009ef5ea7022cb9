use Rattle.std.proofs.Common.{List, ℕ, length}
use Rattle.der_check.specs.Units.{AreUnits}
use Rattle.der_check.proofs.Orders.{AscendsFrom}
use Rattle.der_check.proofs.order.first_fall.Given as goal

abbrev pub invariant-loop-rest : goal.invariant-loop-rest
invariant-loop-rest l = (ys : List (List ℕ)) → AreUnits ys l.contents → AscendsFrom ys l.last l.rest (length l.contents)

abbrev pub decreases-loop-rest : goal.decreases-loop-rest
decreases-loop-rest l = length l.rest
