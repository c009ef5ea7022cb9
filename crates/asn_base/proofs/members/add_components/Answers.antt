use Rattle.std.proofs.Common.{arith, map}
use Rattle.asn_base.specs.Seen.{component_of}
use Rattle.asn_base.specs.proving.Listing.{texts}
use Rattle.asn_base.proofs.Listings.{twice_is, drop_twice_end, gathered, all_gathered}
use Rattle.asn_base.proofs.members.add_components.Goals as goal

pub loop-component-preserved : goal.loop-component-preserved
loop-component-preserved c =
    gathered c.loop-component.names.items c.add.new.list.items c.as_str.result _ (texts c.args.names.now.items) (map (λ i. i.name) (map component_of c.args.components.now)) c.loop-component.component-index c.in_ok-add.ensures c.as_str.ensures.value
    (twice_is (λ i. i.name) component_of c.args.components.now c.loop-component.component-index c.component-item.result c.loop-component-test.true c.component-item.is) c.loop-component.invariant

pub returns : goal.returns
returns c =
    all_gathered c.loop-component.names.items (texts c.args.names.now.items) (map (λ i. i.name) (map component_of c.args.components.now)) c.loop-component.component-index
    (drop_twice_end (λ i. i.name) component_of c.args.components.now c.loop-component.component-index (omega (arith, c.loop-component-test.false, c.loop-component.auto.component-index-end))) c.loop-component.invariant
