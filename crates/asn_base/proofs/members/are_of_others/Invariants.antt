use Rattle.std.proofs.Common.{drop, map}
use Rattle.std.specs.Prelude.{◌↔◌}
use Rattle.std.specs.List.{AllByRecursion}
use Rattle.asn_base.specs.Seen.{component_of}
use Rattle.asn_base.specs.Typed.{IsOfGroup}
use Rattle.asn_base.proofs.members.are_of_others.Given as goal

abbrev pub invariant-loop-i : goal.invariant-loop-i
invariant-loop-i l = AllByRecursion (λ d. IsOfGroup l.group_number d → ⊥) (map component_of l.components) ↔ AllByRecursion (λ d. IsOfGroup l.group_number d → ⊥) (drop l.i (map component_of l.components))
