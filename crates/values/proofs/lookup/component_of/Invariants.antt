use Rattle.std.proofs.Common.{◌≡◌, None, map, take}
use Rattle.type_table.specs.Seen.{part_of}
use Rattle.value_notations.specs.Notations.{part_names}
use Rattle.values.specs.Arranged.{first_place}
use Rattle.values.proofs.lookup.component_of.Given as goal

abbrev pub invariant-loop-i : goal.invariant-loop-i
invariant-loop-i l = first_place l.name (take l.i (part_names (map part_of l.components))) ≡ None
