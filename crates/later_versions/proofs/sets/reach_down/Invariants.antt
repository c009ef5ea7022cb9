use Rattle.std.proofs.Common.{drop, map}
use Rattle.std.specs.Prelude.{◌↔◌}
use Rattle.asn_base.specs.Seen.{range_of}
use Rattle.later_versions.specs.proving.Edges.{HasNoBeginning}
use Rattle.later_versions.proofs.sets.reach_down.Given as goal

abbrev pub invariant-loop-i : goal.invariant-loop-i
invariant-loop-i l = HasNoBeginning (map range_of l.ranges) ↔ HasNoBeginning (drop l.i (map range_of l.ranges))
