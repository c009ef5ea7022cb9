use Rattle.std.proofs.Common.{◌≡◌, ◌+◌, length}
use Rattle.der_layout.specs.Octets.{order}
use Rattle.der_layout.proofs.sort.compare.Given as goal

abbrev pub invariant-loop-x : goal.invariant-loop-x
invariant-loop-x l = order l.x l.y ≡ order l.a l.b

abbrev pub decreases-loop-x : goal.decreases-loop-x
decreases-loop-x l = length l.x + length l.y
