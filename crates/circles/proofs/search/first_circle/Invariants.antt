use Rattle.std.proofs.Common.{ℕ, ◌<◌}
use Rattle.type_table.specs.Seen.{types_of}
use Rattle.circles.specs.Circles.{IsWrittenDefaultCircle}
use Rattle.circles.specs.proving.Reach.{AreUpTo}
use Rattle.circles.proofs.search.first_circle.Given as goal

abbrev pub invariant-loop-list : goal.invariant-loop-list
invariant-loop-list l =
    record {
      earlier : AreUpTo l.list l.marks;
      none : (i : ℕ) → i < l.list → IsWrittenDefaultCircle (types_of l.ranked.types.now) i → ⊥;
    }
