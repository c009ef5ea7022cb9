use Rattle.std.proofs.Common.{◌≤◌, drop, map}
use Rattle.std.specs.Prelude.{◌↔◌}
use Rattle.std.specs.List.{AllByRecursion}
use Rattle.asn_base.specs.Seen.{named_bit_of}
use Rattle.asn_base.proofs.numbers.are_low.Given as goal

abbrev pub invariant-loop-i : goal.invariant-loop-i
invariant-loop-i l = AllByRecursion (λ b. b.place ≤ 65535) (map named_bit_of l.bits) ↔ AllByRecursion (λ b. b.place ≤ 65535) (drop l.i (map named_bit_of l.bits))
