use Rattle.std.proofs.Common.{drop, map}
use Rattle.std.specs.Prelude.{◌↔◌}
use Rattle.asn_base.specs.Seen.{range_of}
use Rattle.later_versions.proofs.Agree.{AgreeAt}
use Rattle.later_versions.proofs.sets.agree_at_all.Given as goal

abbrev pub invariant-loop-i : goal.invariant-loop-i
invariant-loop-i l = AgreeAt l.one l.other (map range_of l.ranges) ↔ AgreeAt l.one l.other (drop l.i (map range_of l.ranges))
