use Rattle.std.proofs.Common.{drop}
use Rattle.std.specs.Prelude.{◌↔◌}
use Rattle.asn_base.specs.proving.Reaching.{AreAbove}
use Rattle.asn_base.proofs.circle.are_above.Given as goal

abbrev pub invariant-loop-i : goal.invariant-loop-i
invariant-loop-i l = AreAbove l.rank l.ranks l.row ↔ AreAbove l.rank l.ranks (drop l.i l.row)
