use Rattle.std.proofs.Common.{ℕ, ◌<◌}
use Rattle.asn_base.specs.Abstract.{bits_of}
use Rattle.asn_base.specs.Decided.{HaveSameOctet}
use Rattle.asn_base.proofs.bits.are_alike_bits.Given as goal

abbrev pub invariant-loop-octet : goal.invariant-loop-octet
invariant-loop-octet l = (j : ℕ) → j < l.octet → HaveSameOctet (bits_of l.first) (bits_of l.second) j
