use Rattle.std.proofs.Common.{◌≡◌, true, sym, ◌∙◌, true≢false}
use Rattle.std.specs.List.{AllByRecursion}
use Rattle.asn_base.specs.Seen.{component_of}
use Rattle.asn_base.specs.Schemas.{is_addition}
use Rattle.asn_base.proofs.Leaves.{yes, no}
use Rattle.asn_base.proofs.members.are_additions.Goals as goal
use Rattle.asn_base.specs.proving.Lists.{drop_is, drop_end, left_at, onward}

pub returns-then-not-is_addition : goal.returns-then-not-is_addition
returns-then-not-is_addition c =
    let a = left_at (AllByRecursion (λ c. is_addition c ≡ true)) _ _ c.loop-i.i (drop_is component_of c.args.components.now c.loop-i.i c.index-components-i.result c.loop-i-test.true c.index-components-i.is) c.loop-i.invariant in
    no (λ h. true≢false (sym (a.0 h).0 ∙ sym c.is_addition.ensures ∙ c.if-not-is_addition.true))

pub loop-i-preserved : goal.loop-i-preserved
loop-i-preserved c =
    let a = left_at (AllByRecursion (λ c. is_addition c ≡ true)) _ _ c.loop-i.i (drop_is component_of c.args.components.now c.loop-i.i c.index-components-i.result c.loop-i-test.true c.index-components-i.is) c.loop-i.invariant in
    onward a (λ p. p.1) (λ p. (sym c.is_addition.ensures ∙ c.if-not-is_addition.false, p))

pub returns : goal.returns
returns c = yes ((left_at (AllByRecursion (λ c. is_addition c ≡ true)) _ _ c.loop-i.i (drop_end component_of c.args.components.now c.loop-i.i c.loop-i-test.false) c.loop-i.invariant).1 tt)
