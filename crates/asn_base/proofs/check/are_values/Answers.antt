use Rattle.std.proofs.Common.{sym, ◌∙◌, true≢false}
use Rattle.std.specs.List.{AllByRecursion}
use Rattle.asn_base.specs.Schemas.{HasValue}
use Rattle.asn_base.specs.Seen.{component_of}
use Rattle.asn_base.proofs.Leaves.{yes, no}
use Rattle.asn_base.proofs.check.are_values.Goals as goal
use Rattle.asn_base.specs.proving.Lists.{drop_is, drop_end, left_at, onward}

pub returns-then-not-has_value : goal.returns-then-not-has_value
returns-then-not-has_value c =
    let a = left_at (AllByRecursion (HasValue c.args.types.now)) _ _ c.loop-i.i (drop_is component_of c.args.components.now c.loop-i.i c.index-components-i.result c.loop-i-test.true c.index-components-i.is) c.loop-i.invariant in
    no (λ h. true≢false (sym (c.has_value.ensures.1 (a.0 h).0) ∙ c.if-not-has_value.true))

pub loop-i-preserved : goal.loop-i-preserved
loop-i-preserved c =
    let a = left_at (AllByRecursion (HasValue c.args.types.now)) _ _ c.loop-i.i (drop_is component_of c.args.components.now c.loop-i.i c.index-components-i.result c.loop-i-test.true c.index-components-i.is) c.loop-i.invariant in
    onward a (λ p. p.1) (λ p. (c.has_value.ensures.0 c.if-not-has_value.false, p))

pub returns : goal.returns
returns c = yes ((left_at (AllByRecursion (HasValue c.args.types.now)) _ _ c.loop-i.i (drop_end component_of c.args.components.now c.loop-i.i c.loop-i-test.false) c.loop-i.invariant).1 tt)
