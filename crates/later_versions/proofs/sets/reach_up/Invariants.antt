use Rattle.std.proofs.Common.{drop, map, ◌^◌}
use Rattle.std.specs.Prelude.{◌↔◌, pos}
use Rattle.asn_base.specs.Seen.{range_of}
use Rattle.asn_base.specs.Typed.{IsInSome}
use Rattle.later_versions.proofs.sets.reach_up.Given as goal

abbrev pub invariant-loop-i : goal.invariant-loop-i
invariant-loop-i l = IsInSome (pos (2 ^ 127)) (map range_of l.ranges) ↔ IsInSome (pos (2 ^ 127)) (drop l.i (map range_of l.ranges))
