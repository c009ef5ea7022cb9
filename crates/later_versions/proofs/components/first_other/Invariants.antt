use Rattle.std.proofs.Common.{◌≤◌, length, map}
use Rattle.asn_base.specs.Seen.{component_of}
use Rattle.later_versions.specs.Later.{IsSameComponent}
use Rattle.later_versions.proofs.Fronts.{FrontTo}
use Rattle.later_versions.proofs.components.first_other.Given as goal

abbrev pub invariant-loop-i : goal.invariant-loop-i
invariant-loop-i l =
    (l.i ≤ length l.others)
    × FrontTo (IsSameComponent l.schema) (map component_of l.components) (map component_of l.others) l.i
