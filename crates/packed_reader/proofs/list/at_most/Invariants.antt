use Rattle.std.proofs.Common.{◌≡◌, length}
use Rattle.bits.specs.Left.{bits_left}
use Rattle.packed_reader.specs.Lists.{at_most}
use Rattle.packed_reader.proofs.list.at_most.Given as goal

abbrev pub invariant-loop-one : goal.invariant-loop-one
invariant-loop-one l = at_most (bits_left l.one) (bits_left l.two) ≡ at_most (bits_left l.first) (bits_left l.second)

abbrev pub decreases-loop-one : goal.decreases-loop-one
decreases-loop-one l = length (bits_left l.one)
