use Rattle.std.proofs.Common.{drop, map}
use Rattle.std.specs.Prelude.{◌↔◌}
use Rattle.std.specs.List.{AllByRecursion}
use Rattle.asn_base.specs.Names.{IsIdentifier}
use Rattle.asn_base.proofs.distinct.are_identifiers.Given as goal

abbrev pub invariant-loop-i : goal.invariant-loop-i
invariant-loop-i l = AllByRecursion IsIdentifier (map (λ n. n.now) l.names) ↔ AllByRecursion IsIdentifier (drop l.i (map (λ n. n.now) l.names))
