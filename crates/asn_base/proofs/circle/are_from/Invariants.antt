use Rattle.std.proofs.Common.{drop}
use Rattle.std.specs.Prelude.{◌↔◌}
use Rattle.asn_base.specs.proving.Reaching.{AreFrom}
use Rattle.asn_base.proofs.circle.are_from.Given as goal

abbrev pub invariant-loop-i : goal.invariant-loop-i
invariant-loop-i l = AreFrom l.rank l.ranks l.row ↔ AreFrom l.rank l.ranks (drop l.i l.row)
