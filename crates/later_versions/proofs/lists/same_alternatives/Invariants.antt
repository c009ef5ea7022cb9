use Rattle.std.proofs.Common.{◌≡◌, ◌≤◌, length, map}
use Rattle.asn_base.specs.Seen.{alternative_of}
use Rattle.later_versions.proofs.Fronts.{FrontTo}
use Rattle.later_versions.proofs.lists.same_alternatives.Given as goal

abbrev pub invariant-loop-i : goal.invariant-loop-i
invariant-loop-i l = (l.i ≤ length l.others) × FrontTo (λ a b. a.name ≡ b.name) (map alternative_of l.alternatives) (map alternative_of l.others) l.i
