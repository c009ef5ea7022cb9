use Rattle.std.proofs.Common.{arith, map}
use Rattle.asn_base.specs.Seen.{alternative_of}
use Rattle.asn_base.specs.proving.Listing.{texts}
use Rattle.asn_base.proofs.Listings.{twice_is, drop_twice_end, gathered, all_gathered}
use Rattle.asn_base.proofs.members.add_alternatives.Goals as goal

pub loop-alternative-preserved : goal.loop-alternative-preserved
loop-alternative-preserved c =
    gathered c.loop-alternative.names.items c.add.new.list.items c.as_str.result _ (texts c.args.names.now.items) (map (λ i. i.name) (map alternative_of c.args.alternatives.now)) c.loop-alternative.alternative-index c.in_ok-add.ensures c.as_str.ensures.value
    (twice_is (λ i. i.name) alternative_of c.args.alternatives.now c.loop-alternative.alternative-index c.alternative-item.result c.loop-alternative-test.true c.alternative-item.is) c.loop-alternative.invariant

pub returns : goal.returns
returns c =
    all_gathered c.loop-alternative.names.items (texts c.args.names.now.items) (map (λ i. i.name) (map alternative_of c.args.alternatives.now)) c.loop-alternative.alternative-index
    (drop_twice_end (λ i. i.name) alternative_of c.args.alternatives.now c.loop-alternative.alternative-index (omega (arith, c.loop-alternative-test.false, c.loop-alternative.auto.alternative-index-end))) c.loop-alternative.invariant
