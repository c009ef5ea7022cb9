use Rattle.std.proofs.Common.{◌+◌, map}
use Rattle.asn_base.specs.Seen.{component_of}
use Rattle.asn_base.proofs.DepthLaws.{RowSoFar}
use Rattle.asn_base.proofs.depths.next_row.Given as goal

abbrev pub invariant-loop-i : goal.invariant-loop-i
invariant-loop-i l = RowSoFar l.known.types.now (l.known.levels + 1) (map component_of l.components) l.row.items l.i
