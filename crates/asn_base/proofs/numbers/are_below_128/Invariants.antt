use Rattle.std.proofs.Common.{◌<◌, drop}
use Rattle.std.specs.Prelude.{◌↔◌}
use Rattle.std.specs.List.{AllByRecursion}
use Rattle.asn_base.proofs.numbers.are_below_128.Given as goal

abbrev pub invariant-loop-i : goal.invariant-loop-i
invariant-loop-i l = AllByRecursion (λ c. c < 128) (l.codes) ↔ AllByRecursion (λ c. c < 128) (drop l.i (l.codes))
