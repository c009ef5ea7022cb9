use Rattle.std.proofs.Common.{List, ℕ, length}
use Rattle.asn_base.specs.Types.{Component}
use Rattle.der_check.specs.Sets.{Parted, ReadsComponents}
use Rattle.der_check.specs.Units.{AreUnits}
use Rattle.der_check.proofs.Climbing.{ClimbsFrom}
use Rattle.der_check.proofs.sets.do_climb.Given as goal

abbrev pub invariant-loop-rest : goal.invariant-loop-rest
invariant-loop-rest l = (cs : List Component) (ys zs us : List (List ℕ)) → ReadsComponents cs 0 l.steps → AreUnits ys l.contents → Parted l.code cs ys zs us → ClimbsFrom l.code cs zs us ys l.last l.rest l.whole (length l.contents)

abbrev pub decreases-loop-rest : goal.decreases-loop-rest
decreases-loop-rest l = length l.rest
