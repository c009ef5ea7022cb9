use Rattle.std.proofs.Common.{drop, map}
use Rattle.std.specs.Prelude.{◌↔◌}
use Rattle.std.specs.List.{AllByRecursion}
use Rattle.asn_base.specs.Schemas.{HasValue}
use Rattle.asn_base.specs.Seen.{component_of}
use Rattle.asn_base.proofs.check.are_values.Given as goal

abbrev pub invariant-loop-i : goal.invariant-loop-i
invariant-loop-i l = AllByRecursion (HasValue l.types) (map component_of l.components) ↔ AllByRecursion (HasValue l.types) (drop l.i (map component_of l.components))
