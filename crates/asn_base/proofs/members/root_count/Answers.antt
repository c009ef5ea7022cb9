use Rattle.std.proofs.Common.{arith, ◌≡◌, length, map, sym, ◌∙◌}
use Rattle.asn_base.specs.Seen.{component_of}
use Rattle.asn_base.proofs.Listings.{counted_to, counted_more, counted_all}
use Rattle.asn_base.proofs.members.root_count.Goals as goal
use Rattle.asn_base.specs.proving.Lists.{drop_is, drop_end}

pub returns-then-is_addition-clause-count : goal.returns-then-is_addition-clause-count
returns-then-is_addition-clause-count c =
    counted_to (map component_of c.args.components.now) c.loop-i.i _ _ (drop_is component_of c.args.components.now c.loop-i.i c.index-components-i.result c.loop-i-test.true c.index-components-i.is) (sym c.is_addition.ensures ∙ c.if-is_addition.true) c.loop-i.invariant

pub loop-i-preserved : goal.loop-i-preserved
loop-i-preserved c =
    counted_more (map component_of c.args.components.now) c.loop-i.i _ (drop_is component_of c.args.components.now c.loop-i.i c.index-components-i.result c.loop-i-test.true c.index-components-i.is) (sym c.is_addition.ensures ∙ c.if-is_addition.false) c.loop-i.invariant

pub returns-clause-count : goal.returns-clause-count
returns-clause-count c =
    let e : c.loop-i.i ≡ length c.args.components.now = omega (arith, c.loop-i-test.false, c.loop-i.auto.i-end) in
    sym e ∙ counted_all (map component_of c.args.components.now) c.loop-i.i (drop_end component_of c.args.components.now c.loop-i.i c.loop-i-test.false) c.loop-i.invariant
