use Rattle.std.proofs.Common.{◌≡◌, ◌<◌, ◌^◌, take}
use Rattle.std.specs.List.{AllByRecursion}
use Rattle.value_notations.proofs.leaf.within_limit.Given as goal

abbrev pub invariant-loop-number : goal.invariant-loop-number
invariant-loop-number l =
    (l.all.items ≡ take l.number-index l.numbers) × AllByRecursion (λ n. n < 2 ^ 64) (take l.number-index l.numbers)
