use Rattle.std.proofs.Common.{map}
use Rattle.trees.specs.Values.{member_of}
use Rattle.value_notations.specs.Notations.{field_names}
use Rattle.values.proofs.Lookups.{AreFirst}
use Rattle.values.proofs.lookup.repeated.Given as goal

abbrev pub invariant-loop-i : goal.invariant-loop-i
invariant-loop-i l = AreFirst (field_names (map member_of l.fields)) l.i
