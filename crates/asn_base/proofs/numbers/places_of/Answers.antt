use Rattle.std.proofs.Common.{arith, map}
use Rattle.asn_base.specs.Seen.{named_bit_of}
use Rattle.asn_base.proofs.Listings.{drop_twice, drop_twice_end, kept_adding, kept_added}
use Rattle.asn_base.proofs.numbers.places_of.Goals as goal

pub loop-i-preserved : goal.loop-i-preserved
loop-i-preserved c =
    kept_adding c.loop-i.places.items c.add.new.list.items _ (map (λ b. b.place) (map named_bit_of c.args.bits.now)) c.loop-i.i c.in_ok-add.ensures
    (drop_twice (λ b. b.place) named_bit_of c.args.bits.now c.loop-i.i c.index-bits-i.result c.loop-i-test.true) c.loop-i.invariant

pub returns : goal.returns
returns c = kept_added c.loop-i.places.items (map (λ b. b.place) (map named_bit_of c.args.bits.now)) c.loop-i.i (drop_twice_end (λ b. b.place) named_bit_of c.args.bits.now c.loop-i.i (omega (arith, c.loop-i-test.false))) c.loop-i.invariant
