use Rattle.std.proofs.Common.{◌<◌, length, drop}
use Rattle.std.specs.Prelude.{◌↔◌}
use Rattle.std.specs.List.{AllByRecursion}
use Rattle.asn_base.proofs.members.are_there.Given as goal

abbrev pub invariant-loop-i : goal.invariant-loop-i
invariant-loop-i l = AllByRecursion (λ u. u < length l.types) l.row ↔ AllByRecursion (λ u. u < length l.types) (drop l.i l.row)
