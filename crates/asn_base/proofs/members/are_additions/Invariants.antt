use Rattle.std.proofs.Common.{◌≡◌, true, drop, map}
use Rattle.std.specs.Prelude.{◌↔◌}
use Rattle.std.specs.List.{AllByRecursion}
use Rattle.asn_base.specs.Seen.{component_of}
use Rattle.asn_base.specs.Schemas.{is_addition}
use Rattle.asn_base.proofs.members.are_additions.Given as goal

abbrev pub invariant-loop-i : goal.invariant-loop-i
invariant-loop-i l = AllByRecursion (λ c. is_addition c ≡ true) (map component_of l.components) ↔ AllByRecursion (λ c. is_addition c ≡ true) (drop l.i (map component_of l.components))
