use Rattle.std.proofs.Common.{◌+◌, length}
use Rattle.type_table.specs.Seen.{types_of}
use Rattle.circles.specs.proving.Reach.{unmarked}
use Rattle.circles.proofs.Marking.{IsSearching}
use Rattle.circles.proofs.reach.mark_reached.Given as goal

abbrev pub invariant-loop-at : goal.invariant-loop-at
invariant-loop-at l = IsSearching (types_of l.types) l.search l.fn.marks l.marks l.waiting.items

abbrev pub decreases-loop-at : goal.decreases-loop-at
decreases-loop-at l = unmarked l.search l.marks + length l.waiting.items
