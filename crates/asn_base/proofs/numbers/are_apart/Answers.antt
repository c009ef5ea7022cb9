use Rattle.std.proofs.Common.{map, sym, ◌∙◌, true≢false}
use Rattle.std.specs.List.{AllByRecursion}
use Rattle.asn_base.specs.Seen.{item_of}
use Rattle.asn_base.specs.Typed.{HasNumber}
use Rattle.asn_base.proofs.Leaves.{no}
use Rattle.asn_base.proofs.numbers.are_apart.Goals as goal
use Rattle.asn_base.specs.proving.Lists.{drop_is, left_at, onward}

pub returns-then-has_number_of : goal.returns-then-has_number_of
returns-then-has_number_of c =
    let a = left_at (AllByRecursion (λ i. HasNumber (map item_of c.args.root.now) i.number → ⊥)) _ _ c.loop-i.i (drop_is item_of c.args.more.now c.loop-i.i c.index-more-i.result c.loop-i-test.true c.index-more-i.is) c.loop-i.invariant in
    no (λ h. (a.0 h).0 (c.has_number_of.ensures.0 c.if-has_number_of.true))

pub loop-i-preserved : goal.loop-i-preserved
loop-i-preserved c =
    let a = left_at (AllByRecursion (λ i. HasNumber (map item_of c.args.root.now) i.number → ⊥)) _ _ c.loop-i.i (drop_is item_of c.args.more.now c.loop-i.i c.index-more-i.result c.loop-i-test.true c.index-more-i.is) c.loop-i.invariant in
    onward a (λ h. h.1) (λ h. ((λ g. true≢false (sym (c.has_number_of.ensures.1 g) ∙ c.if-has_number_of.false)), h))
