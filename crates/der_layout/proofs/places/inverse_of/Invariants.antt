use Rattle.std.proofs.Common.{◌≡◌, ◌++◌, map, drop}
use Rattle.der_layout.specs.Rows.{numbers_in, listed}
use Rattle.der_layout.proofs.places.inverse_of.Given as goal

abbrev pub invariant-loop-place : goal.invariant-loop-place
invariant-loop-place l = l.inverse.items ++ map listed (numbers_in (drop l.place l.members)) ≡ map listed (numbers_in l.members)
