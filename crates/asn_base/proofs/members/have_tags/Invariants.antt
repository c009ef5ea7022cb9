use Rattle.std.proofs.Common.{drop}
use Rattle.std.specs.Prelude.{◌↔◌}
use Rattle.std.specs.List.{AllByRecursion}
use Rattle.asn_base.specs.Schemas.{HasTag}
use Rattle.asn_base.proofs.members.have_tags.Given as goal

abbrev pub invariant-loop-i : goal.invariant-loop-i
invariant-loop-i l = AllByRecursion (HasTag l.types) l.row ↔ AllByRecursion (HasTag l.types) (drop l.i l.row)
