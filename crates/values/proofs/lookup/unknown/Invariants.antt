use Rattle.std.proofs.Common.{map}
use Rattle.trees.specs.Values.{member_of}
use Rattle.type_table.specs.Seen.{part_of}
use Rattle.value_notations.specs.Notations.{field_names, part_names}
use Rattle.values.proofs.Lookups.{AreKnown}
use Rattle.values.proofs.lookup.unknown.Given as goal

abbrev pub invariant-loop-i : goal.invariant-loop-i
invariant-loop-i l = AreKnown (part_names (map part_of l.components)) (field_names (map member_of l.fields)) l.i
