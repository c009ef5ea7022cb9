use Rattle.std.proofs.Common.{◌+◌, sym, subst, ◌∙◌, true≢false}
use Rattle.asn_base.specs.Seen.{component_of}
use Rattle.asn_base.specs.Schemas.{GroupsTogether}
use Rattle.asn_base.specs.proving.Listing.{AreTogether}
use Rattle.asn_base.proofs.Leaves.{yes, no}
use Rattle.asn_base.proofs.Listings.{groups_split, part_map}
use Rattle.asn_base.proofs.members.are_adjacent.Goals as goal
use Rattle.asn_base.specs.proving.Lists.{drop_is, drop_end, left_at, onward}

pub returns-then-not-goes_on_or_ends : goal.returns-then-not-goes_on_or_ends
returns-then-not-goes_on_or_ends c =
    let x = component_of c.index-components-i.result in
    let a = left_at GroupsTogether _ _ c.loop-i.i (drop_is component_of c.args.components.now c.loop-i.i c.index-components-i.result c.loop-i-test.true c.index-components-i.is) c.loop-i.invariant in
    no (λ h. true≢false (sym (c.goes_on_or_ends.ensures.1 (subst (AreTogether x) (sym (part_map component_of (c.loop-i.i + 1) c.args.components.now)) ((groups_split x _).0 (a.0 h)).0)) ∙ c.if-not-goes_on_or_ends.true))

pub loop-i-preserved : goal.loop-i-preserved
loop-i-preserved c =
    let x = component_of c.index-components-i.result in
    let a = left_at GroupsTogether _ _ c.loop-i.i (drop_is component_of c.args.components.now c.loop-i.i c.index-components-i.result c.loop-i-test.true c.index-components-i.is) c.loop-i.invariant in
    onward a (λ h. ((groups_split x _).0 h).1) (λ h. (groups_split x _).1 (subst (AreTogether x) (part_map component_of (c.loop-i.i + 1) c.args.components.now) (c.goes_on_or_ends.ensures.0 c.if-not-goes_on_or_ends.false), h))

pub returns : goal.returns
returns c = yes ((left_at GroupsTogether _ _ c.loop-i.i (drop_end component_of c.args.components.now c.loop-i.i c.loop-i-test.false) c.loop-i.invariant).1 tt)
