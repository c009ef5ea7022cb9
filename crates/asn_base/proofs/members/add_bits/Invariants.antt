use Rattle.std.proofs.Common.{◌≡◌, ◌++◌, drop, map}
use Rattle.asn_base.specs.Seen.{named_bit_of}
use Rattle.asn_base.specs.proving.Listing.{texts}
use Rattle.asn_base.proofs.members.add_bits.Given as goal

abbrev pub invariant-loop-bit : goal.invariant-loop-bit
invariant-loop-bit l = texts l.names.items ++ drop l.bit-index (map (λ i. i.name) (map named_bit_of l.bits)) ≡ texts l.fn.names.items ++ map (λ i. i.name) (map named_bit_of l.bits)
