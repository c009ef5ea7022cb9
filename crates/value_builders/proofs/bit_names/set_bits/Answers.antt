use Rattle.std.proofs.Common.{◌≡◌, ◌≤◌, ◌<◌, ◌+◌, ◌-◌, ◌*◌, ◌/◌, ◌%◌, ◌∙◌, refl, sym, ap, subst, length, take, false, flat_map, arith, ℕ, List, Bool}
use Rattle.std.specs.Prelude.{replicate, slice_index_or}
use Rattle.std.proofs.lemmas.List.{length-replicate}
use Rattle.asn_base.specs.Abstract.{bits_of_octet, bits_of}
use Rattle.asn_base.specs.proving.Lists.{eight_each, one_of}
use Rattle.value_builders.specs.Made.{AreSetBits}
use Rattle.value_builders.proofs.SetBits.{AreSet, place_there, set_first, set_more}
use Rattle.value_builders.proofs.SetOctets.{all_clear, set_in_front}
use Rattle.value_builders.proofs.bit_names.set_bits.Goals as goal

pub loop-place-init : goal.loop-place-init
loop-place-init c =
    let n = (c.bit_count-count.result + 7) / 8 in
    let e : c.in_ok-octets.octets.items ≡ replicate n 0 = c.in_ok-octets.ensures.items_if_clones_equal (λ y h. h) in
    record {
      long = ap length e ∙ length-replicate n 0;
      set =
          subst (λ (z : List Bool). AreSet c.args.places.now 0 z) (sym (ap (flat_map bits_of_octet) e ∙ all_clear n))
          (set_first c.args.places.now (8 * n));
    }

pub set_bit-requires : goal.set_bit-requires
set_bit-requires c =
    let ps = c.args.places.now in
    let i = c.loop-place.place-index in
    let b = one_of (λ (q : ℕ). q < c.bit_count-count.result) ps i 0 c.loop-place-test.true c.bit_count-count.ensures.all in
    omega (arith, b, c.loop-place.invariant.long)

pub loop-place-preserved : goal.loop-place-preserved
loop-place-preserved c =
    let ps = c.args.places.now in
    let i = c.loop-place.place-index in
    let p = slice_index_or ps i 0 in
    let os = c.loop-place.octets.items in
    let l = c.loop-place-test.true in
    let long = c.loop-place.invariant.long in
    let each = eight_each os in
    let b = one_of (λ (q : ℕ). q < c.bit_count-count.result) ps i 0 l c.bit_count-count.ensures.all in
    record {
      long = c.set_bit.ensures.long ∙ long;
      set =
          subst (λ (z : List Bool). AreSet ps (i + 1) z) (sym c.set_bit.ensures.bits)
          (set_more ps i p (flat_map bits_of_octet os) (place_there ps i l) (omega (arith, b, long, each)) c.loop-place.invariant.set);
    }

pub returns : goal.returns
returns c =
    let ps = c.args.places.now in
    let n = c.bit_count-count.result in
    let os = c.loop-place.octets.items in
    let long = c.loop-place.invariant.long in
    let each = eight_each os in
    let few : 8 * length os - c.of.result.unused ≡ n = omega (arith, long, c.of.ensures.unused) in
    subst (λ v. AreSetBits ps (take (8 * length v.items - c.of.result.unused) (flat_map bits_of_octet v.items)))
    (sym c.of.ensures.octets)
    (subst (λ (m : ℕ). AreSetBits ps (take m (flat_map bits_of_octet os))) (sym few)
    (set_in_front ps c.loop-place.place-index n (flat_map bits_of_octet os)
    (omega (arith, c.loop-place-test.false, c.loop-place.auto.place-index-end)) c.bit_count-count.ensures.all
    (omega (arith, long, each)) c.loop-place.invariant.set c.bit_count-count.ensures.greatest))
