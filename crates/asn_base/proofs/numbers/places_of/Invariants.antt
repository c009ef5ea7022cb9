use Rattle.std.proofs.Common.{◌≡◌, ◌++◌, drop, map}
use Rattle.asn_base.specs.Seen.{named_bit_of}
use Rattle.asn_base.proofs.numbers.places_of.Given as goal

abbrev pub invariant-loop-i : goal.invariant-loop-i
invariant-loop-i l = l.places.items ++ drop l.i (map (λ b. b.place) (map named_bit_of l.bits)) ≡ map (λ b. b.place) (map named_bit_of l.bits)
