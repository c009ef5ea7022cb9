use Rattle.std.proofs.Common.{arith, map}
use Rattle.asn_base.specs.Seen.{item_of}
use Rattle.asn_base.specs.proving.Listing.{texts}
use Rattle.asn_base.proofs.Listings.{twice_is, drop_twice_end, gathered, all_gathered}
use Rattle.asn_base.proofs.members.add_items.Goals as goal

pub loop-item-preserved : goal.loop-item-preserved
loop-item-preserved c =
    gathered c.loop-item.names.items c.add.new.list.items c.as_str.result _ (texts c.args.names.now.items) (map (λ i. i.name) (map item_of c.args.items.now)) c.loop-item.item-index c.in_ok-add.ensures c.as_str.ensures.value
    (twice_is (λ i. i.name) item_of c.args.items.now c.loop-item.item-index c.item-item.result c.loop-item-test.true c.item-item.is) c.loop-item.invariant

pub returns : goal.returns
returns c =
    all_gathered c.loop-item.names.items (texts c.args.names.now.items) (map (λ i. i.name) (map item_of c.args.items.now)) c.loop-item.item-index
    (drop_twice_end (λ i. i.name) item_of c.args.items.now c.loop-item.item-index (omega (arith, c.loop-item-test.false, c.loop-item.auto.item-index-end))) c.loop-item.invariant
