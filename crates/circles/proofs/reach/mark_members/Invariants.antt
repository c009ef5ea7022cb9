use Rattle.std.proofs.Common.{map}
use Rattle.type_table.specs.Seen.{part_of}
use Rattle.circles.specs.proving.Reach.{Marks}
use Rattle.circles.proofs.Marking.{IsMemberBelow}
use Rattle.circles.proofs.reach.mark_members.Given as goal

abbrev pub invariant-loop-component : goal.invariant-loop-component
invariant-loop-component l = Marks l.search (λ j. IsMemberBelow (map part_of l.components) l.component-index j) l.fn.marks l.marks l.fn.waiting.items l.waiting.items
