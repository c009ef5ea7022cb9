use Rattle.std.proofs.Common.{◌+◌, drop, map, ap}
use Rattle.asn_base.specs.Seen.{component_of}
use Rattle.asn_base.specs.proving.Reaching.{default_types}
use Rattle.asn_base.proofs.FirstTags.{adding, added}
use Rattle.asn_base.proofs.Graphs.{default_piece}
use Rattle.asn_base.proofs.graph.default_row.Goals as goal
use Rattle.asn_base.specs.proving.Lists.{drop_is, drop_end}

pub loop-i-preserved : goal.loop-i-preserved
loop-i-preserved c =
    adding c.loop-i.row.items c.add_default.new.row.items _ (default_types (drop (c.loop-i.i + 1) (map component_of c.args.components.now))) _ _ c.in_ok-add_default.ensures
    (default_piece _ _ _ (drop_is component_of c.args.components.now c.loop-i.i c.index-components-i.result c.loop-i-test.true c.index-components-i.is)) c.loop-i.invariant

pub returns : goal.returns
returns c = added c.loop-i.row.items _ _ (ap default_types (drop_end component_of c.args.components.now c.loop-i.i c.loop-i-test.false)) c.loop-i.invariant
