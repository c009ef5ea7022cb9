use Rattle.std.proofs.Common.{map}
use Rattle.asn_base.specs.Seen.{component_of}
use Rattle.later_versions.specs.Differences.{AreAdditions}
use Rattle.later_versions.proofs.components.first_of_root.Given as goal

abbrev pub invariant-loop-i : goal.invariant-loop-i
invariant-loop-i l = AreAdditions (map component_of l.components) l.fn.from l.i
