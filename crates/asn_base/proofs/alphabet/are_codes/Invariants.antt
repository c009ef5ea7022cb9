use Rattle.std.proofs.Common.{drop}
use Rattle.std.specs.Prelude.{◌↔◌}
use Rattle.std.specs.List.{AllByRecursion}
use Rattle.asn_base.specs.Names.{IsMember}
use Rattle.asn_base.proofs.alphabet.are_codes.Given as goal

abbrev pub invariant-loop-i : goal.invariant-loop-i
invariant-loop-i l = AllByRecursion (λ x. IsMember x l.alphabet) l.octets ↔ AllByRecursion (λ x. IsMember x l.alphabet) (drop l.i l.octets)
