use Rattle.std.proofs.Common.{◌+◌}
use Rattle.asn_base.specs.Depths.{rows_of}
use Rattle.asn_base.proofs.DepthLaws.{RowsSoFar}
use Rattle.asn_base.proofs.depths.next_rows.Given as goal

abbrev pub invariant-loop-i : goal.invariant-loop-i
invariant-loop-i l = RowsSoFar l.known.types.now (l.known.levels + 1) (rows_of l.rows.items) l.i
