use Rattle.std.proofs.Common.{◌+◌, drop, map}
use Rattle.asn_base.specs.Seen.{component_of}
use Rattle.asn_base.proofs.Listings.{drop_twice, drop_twice_end}
use Rattle.asn_base.proofs.FirstTags.{adding, added}
use Rattle.asn_base.proofs.graph.add_components.Goals as goal

pub loop-i-preserved : goal.loop-i-preserved
loop-i-preserved c =
    adding c.loop-i.row.items c.add.new.list.items _ (drop (c.loop-i.i + 1) (map (λ d. d.type) (map component_of c.args.components.now))) _ _ c.in_ok-add.ensures
    (drop_twice (λ d. d.type) component_of c.args.components.now c.loop-i.i c.index-components-i.result c.loop-i-test.true) c.loop-i.invariant

pub returns : goal.returns
returns c = added c.loop-i.row.items _ _ (drop_twice_end (λ d. d.type) component_of c.args.components.now c.loop-i.i c.loop-i-test.false) c.loop-i.invariant
