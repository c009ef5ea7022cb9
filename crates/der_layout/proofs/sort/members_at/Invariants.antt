use Rattle.std.proofs.Common.{◌≡◌, map, take}
use Rattle.der_layout.specs.proving.Words.{member_at}
use Rattle.der_layout.proofs.sort.members_at.Given as goal

abbrev pub invariant-loop-i : goal.invariant-loop-i
invariant-loop-i l = l.all.items ≡ map (λ b. member_at l.members b.place) (take l.i l.beginnings)
