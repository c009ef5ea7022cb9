use Rattle.std.proofs.Common.{List, ℕ, length}
use Rattle.der_check.specs.Places.{IsOnly}
use Rattle.der_check.specs.Units.{AreUnits}
use Rattle.der_check.proofs.Climbing.{ComesFrom}
use Rattle.der_check.proofs.sets.find_first.Given as goal

abbrev pub invariant-loop-rest : goal.invariant-loop-rest
invariant-loop-rest l = (ys : List (List ℕ)) (x : List ℕ) → AreUnits ys l.contents → IsOnly l.code l.id.index ys x → ComesFrom l.code l.id.index ys x l.rest (length l.contents)

abbrev pub decreases-loop-rest : goal.decreases-loop-rest
decreases-loop-rest l = length l.rest
