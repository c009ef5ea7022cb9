use Rattle.std.proofs.Common.{drop, map}
use Rattle.std.specs.Prelude.{◌↔◌}
use Rattle.std.specs.List.{AllByRecursion}
use Rattle.asn_base.specs.Seen.{item_of}
use Rattle.asn_base.specs.Typed.{IsWithinLimit}
use Rattle.asn_base.proofs.numbers.lemma_items_within_limit.Given as goal

abbrev pub invariant-loop-i : goal.invariant-loop-i
invariant-loop-i l = AllByRecursion (λ i. IsWithinLimit i.number) (map item_of l.items) ↔ AllByRecursion (λ i. IsWithinLimit i.number) (drop l.i (map item_of l.items))
