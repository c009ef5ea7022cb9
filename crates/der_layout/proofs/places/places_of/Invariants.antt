use Rattle.der_layout.proofs.Placing.{Filled}
use Rattle.der_layout.proofs.places.places_of.Given as goal

abbrev pub invariant-loop-place : goal.invariant-loop-place
invariant-loop-place l = Filled l.members l.place l.places.items
