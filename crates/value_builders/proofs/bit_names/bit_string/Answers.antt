use Rattle.std.proofs.Common.{◌≡◌, ◌-◌, ◌*◌, ◌%◌, sym, subst, length, take, flat_map, arith, List, Bool}
use Rattle.std.specs.Int.Digits.{AllBelowBase}
use Rattle.asn_base.specs.Abstract.{bits_of_octet}
use Rattle.bits.specs.Adds.{Pads}
use Rattle.value_builders.proofs.Packing.{packed_bits}
use Rattle.value_builders.proofs.bit_names.bit_string.Goals as goal

pub returns : goal.returns
returns c =
    let s = c.args.bits.now in
    let os = c.in_ok-octets.octets.items in
    let padded = c.pad.new.self in
    let p : Pads s padded = subst (λ (z : List Bool). Pads z padded) c.in_ok-fill.ensures c.in_ok-pad.ensures.ok in
    let b = subst (AllBelowBase 256) c.as_slice.ensures.value c.octet_count-count.ensures.below in
    let q : c.of.result.unused ≡ (8 - length s % 8) % 8 = omega (arith, c.of.ensures.unused) in
    subst (λ v. take (8 * length v.items - c.of.result.unused) (flat_map bits_of_octet v.items) ≡ s)
    (sym c.of.ensures.octets) (packed_bits os s padded c.in_ok-octets.ensures p c.of.result.unused b q)
