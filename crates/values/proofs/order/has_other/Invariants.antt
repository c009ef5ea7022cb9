use Rattle.std.proofs.Common.{map}
use Rattle.type_table.specs.Seen.{part_of}
use Rattle.values.proofs.Missings.{NoOther}
use Rattle.values.proofs.order.has_other.Given as goal

abbrev pub invariant-loop-i : goal.invariant-loop-i
invariant-loop-i l = NoOther l.group (map part_of l.components) l.places l.i
