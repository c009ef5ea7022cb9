use Rattle.std.proofs.Common.{◌≡◌, ◌+◌, ◌/◌, length, flat_map}
use Rattle.asn_base.specs.Abstract.{bits_of_octet}
use Rattle.value_builders.proofs.SetBits.{AreSet}
use Rattle.value_builders.proofs.bit_names.set_bits.Given as goal

abbrev pub invariant-loop-place : goal.invariant-loop-place
invariant-loop-place l = record {
  long : length l.octets.items ≡ (l.count + 7) / 8;
  set : AreSet l.places l.place-index (flat_map bits_of_octet l.octets.items);
}
