use Rattle.std.specs.Cmp.Lexicographic.{slice_cmp}
use Rattle.std.specs.Ordering.{nat_cmp}
use Rattle.asn_base.proofs.Differing.{Kept}
use Rattle.asn_base.proofs.distinct.are_different_names.Given as goal

abbrev pub invariant-loop-name : goal.invariant-loop-name
invariant-loop-name l = Kept (λ n. n.now) (slice_cmp nat_cmp) l.names l.before.keys l.name-index
