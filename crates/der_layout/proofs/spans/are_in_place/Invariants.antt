use Rattle.der_layout.proofs.InPlace.{InPlace}
use Rattle.der_layout.proofs.spans.are_in_place.Given as goal

abbrev pub invariant-loop-i : goal.invariant-loop-i
invariant-loop-i l = InPlace l.start l.members l.i l.at
