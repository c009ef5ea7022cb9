use Rattle.std.proofs.Common.{sym, ◌∙◌, true≢false}
use Rattle.std.specs.List.{AllByRecursion}
use Rattle.asn_base.specs.Seen.{component_of}
use Rattle.asn_base.specs.Typed.{IsOfGroup}
use Rattle.asn_base.proofs.Leaves.{yes, no}
use Rattle.asn_base.proofs.members.are_of_others.Goals as goal
use Rattle.asn_base.specs.proving.Lists.{drop_is, drop_end, left_at, onward}

pub returns-then-is_of_group : goal.returns-then-is_of_group
returns-then-is_of_group c =
    let a = left_at (AllByRecursion (λ d. IsOfGroup c.args.group_number d → ⊥)) _ _ c.loop-i.i (drop_is component_of c.args.components.now c.loop-i.i c.index-components-i.result c.loop-i-test.true c.index-components-i.is) c.loop-i.invariant in
    no (λ h. (a.0 h).0 (c.is_of_group.ensures.0 c.if-is_of_group.true))

pub loop-i-preserved : goal.loop-i-preserved
loop-i-preserved c =
    let a = left_at (AllByRecursion (λ d. IsOfGroup c.args.group_number d → ⊥)) _ _ c.loop-i.i (drop_is component_of c.args.components.now c.loop-i.i c.index-components-i.result c.loop-i-test.true c.index-components-i.is) c.loop-i.invariant in
    onward a (λ p. p.1) (λ p. (λ g. true≢false (sym (c.is_of_group.ensures.1 g) ∙ c.if-is_of_group.false), p))

pub returns : goal.returns
returns c = yes ((left_at (AllByRecursion (λ d. IsOfGroup c.args.group_number d → ⊥)) _ _ c.loop-i.i (drop_end component_of c.args.components.now c.loop-i.i c.loop-i-test.false) c.loop-i.invariant).1 tt)
