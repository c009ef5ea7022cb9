use Rattle.std.proofs.Common.{arith, map}
use Rattle.asn_base.specs.Seen.{named_bit_of}
use Rattle.asn_base.specs.proving.Listing.{texts}
use Rattle.asn_base.proofs.Listings.{twice_is, drop_twice_end, gathered, all_gathered}
use Rattle.asn_base.proofs.members.add_bits.Goals as goal

pub loop-bit-preserved : goal.loop-bit-preserved
loop-bit-preserved c =
    gathered c.loop-bit.names.items c.add.new.list.items c.as_str.result _ (texts c.args.names.now.items) (map (λ i. i.name) (map named_bit_of c.args.bits.now)) c.loop-bit.bit-index c.in_ok-add.ensures c.as_str.ensures.value
    (twice_is (λ i. i.name) named_bit_of c.args.bits.now c.loop-bit.bit-index c.bit-item.result c.loop-bit-test.true c.bit-item.is) c.loop-bit.invariant

pub returns : goal.returns
returns c =
    all_gathered c.loop-bit.names.items (texts c.args.names.now.items) (map (λ i. i.name) (map named_bit_of c.args.bits.now)) c.loop-bit.bit-index
    (drop_twice_end (λ i. i.name) named_bit_of c.args.bits.now c.loop-bit.bit-index (omega (arith, c.loop-bit-test.false, c.loop-bit.auto.bit-index-end))) c.loop-bit.invariant
