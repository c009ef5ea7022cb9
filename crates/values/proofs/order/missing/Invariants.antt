use Rattle.std.proofs.Common.{map}
use Rattle.type_table.specs.Seen.{part_of}
use Rattle.values.specs.proving.Arranging.{NoneMissing}
use Rattle.values.proofs.order.missing.Given as goal

abbrev pub invariant-loop-i : goal.invariant-loop-i
invariant-loop-i l = NoneMissing (map part_of l.components) l.places l.i
