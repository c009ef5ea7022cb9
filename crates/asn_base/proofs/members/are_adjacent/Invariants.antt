use Rattle.std.proofs.Common.{drop, map}
use Rattle.std.specs.Prelude.{◌↔◌}
use Rattle.asn_base.specs.Seen.{component_of}
use Rattle.asn_base.specs.Schemas.{GroupsTogether}
use Rattle.asn_base.proofs.members.are_adjacent.Given as goal

abbrev pub invariant-loop-i : goal.invariant-loop-i
invariant-loop-i l = GroupsTogether (map component_of l.components) ↔ GroupsTogether (drop l.i (map component_of l.components))
