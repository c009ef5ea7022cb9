use Rattle.std.proofs.Common.{drop, map}
use Rattle.std.specs.Prelude.{◌↔◌}
use Rattle.std.specs.List.{AllByRecursion}
use Rattle.asn_base.specs.Seen.{item_of}
use Rattle.asn_base.specs.Typed.{HasNumber}
use Rattle.asn_base.proofs.numbers.are_apart.Given as goal

abbrev pub invariant-loop-i : goal.invariant-loop-i
invariant-loop-i l = AllByRecursion (λ i. HasNumber (map item_of l.root) i.number → ⊥) (map item_of l.more) ↔ AllByRecursion (λ i. HasNumber (map item_of l.root) i.number → ⊥) (drop l.i (map item_of l.more))
