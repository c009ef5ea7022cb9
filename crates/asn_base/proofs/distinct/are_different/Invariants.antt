use Rattle.std.specs.Ordering.{nat_cmp}
use Rattle.asn_base.proofs.Differing.{Kept}
use Rattle.asn_base.proofs.distinct.are_different.Given as goal

abbrev pub invariant-loop-i : goal.invariant-loop-i
invariant-loop-i l = Kept (λ n. n) nat_cmp l.numbers l.before.keys l.i
