use Rattle.std.proofs.Common.{◌≡◌, ◌++◌, drop}
use Rattle.der_layout.specs.proving.Words.{beginnings_of}
use Rattle.der_layout.proofs.sort.beginnings.Given as goal

abbrev pub invariant-loop-place : goal.invariant-loop-place
invariant-loop-place l = l.all.items ++ beginnings_of l.octets (drop l.place l.members) l.place ≡ beginnings_of l.octets l.members 0
