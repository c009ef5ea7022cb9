use Rattle.std.proofs.Common.{arith, ◌+◌, map}
use Rattle.asn_base.specs.Seen.{component_of}
use Rattle.asn_base.proofs.DepthLaws.{component_at, known_row, row_step, row_done}
use Rattle.asn_base.proofs.depths.next_row.Goals as goal
use Rattle.asn_base.specs.proving.Lists.{length_mapped}

pub next_depth-one-requires-clause-before : goal.next_depth-one-requires-clause-before
next_depth-one-requires-clause-before c =
    let there = component_at component_of c.args.components.now c.loop-i.i c.index-components-i.result c.loop-i-test.true c.index-components-i.is in
    known_row c.args.known.types.now c.args.known.levels c.args.id.index c.loop-i.i (map component_of c.args.components.now) (component_of c.index-components-i.result) c.args.known.depths.now c.requires.known c.requires.of there

pub loop-i-preserved : goal.loop-i-preserved
loop-i-preserved c =
    let there = component_at component_of c.args.components.now c.loop-i.i c.index-components-i.result c.loop-i-test.true c.index-components-i.is in
    row_step c.args.known.types.now (c.args.known.levels + 1) (map component_of c.args.components.now) c.loop-i.row.items c.add.new.list.items c.loop-i.i c.next_depth-one.result (component_of c.index-components-i.result) there c.next_depth-one.ensures c.in_ok-add.ensures c.loop-i.invariant

pub returns : goal.returns
returns c =
    let many = length_mapped component_of c.args.components.now in
    row_done c.args.known.types.now (c.args.known.levels + 1) (map component_of c.args.components.now) c.loop-i.row.items c.loop-i.i (omega (arith, many, c.loop-i-test.false)) c.loop-i.invariant
