use Rattle.std.proofs.Common.{◌≡◌, None, map, take}
use Rattle.trees.specs.Values.{member_of}
use Rattle.value_notations.specs.Notations.{field_names}
use Rattle.values.specs.Arranged.{first_place}
use Rattle.values.proofs.lookup.field_of.Given as goal

abbrev pub invariant-loop-i : goal.invariant-loop-i
invariant-loop-i l = first_place l.name (take l.i (field_names (map member_of l.fields))) ≡ None
