use Rattle.std.proofs.Common.{map}
use Rattle.asn_base.specs.Seen.{component_of}
use Rattle.later_versions.proofs.Joined.{SameTo}
use Rattle.later_versions.proofs.components.other_groups.Given as goal

abbrev pub invariant-loop-i : goal.invariant-loop-i
invariant-loop-i l = SameTo (map component_of l.components) (map component_of l.others) l.i
