use Rattle.std.proofs.Common.{◌≡◌, ℕ, ◌+◌, ◌*◌, ◌<◌, false, get_or}
use Rattle.asn_base.specs.Abstract.{bits_of}
use Rattle.asn_base.proofs.bits.have_same_octet.Given as goal

abbrev pub invariant-loop-place : goal.invariant-loop-place
invariant-loop-place l = (k : ℕ) → k < l.place → get_or (bits_of l.first) (8 * l.octet + k) false ≡ get_or (bits_of l.second) (8 * l.octet + k) false
