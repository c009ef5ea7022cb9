use Rattle.std.proofs.Common.{◌+◌, length}
use Rattle.asn_base.specs.Depths.{rows_of}
use Rattle.asn_base.specs.proving.Reaching.{unmarked}
use Rattle.asn_base.proofs.Reaching.{IsSearching}
use Rattle.asn_base.proofs.circle.mark_reached.Given as goal

abbrev pub invariant-loop-at : goal.invariant-loop-at
invariant-loop-at l = IsSearching (rows_of l.rows) l.fn.marks l.marks l.waiting.items

abbrev pub decreases-loop-at : goal.decreases-loop-at
decreases-loop-at l = unmarked l.marks + length l.waiting.items
