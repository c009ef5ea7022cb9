use Rattle.std.proofs.Common.{map}
use Rattle.type_table.specs.Seen.{part_of}
use Rattle.values.specs.proving.Arranging.{NoneDue}
use Rattle.values.proofs.order.missing_in_group.Given as goal

abbrev pub invariant-loop-i : goal.invariant-loop-i
invariant-loop-i l = NoneDue (map part_of l.components) l.places l.i
