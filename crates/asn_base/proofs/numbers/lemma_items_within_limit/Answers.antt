use Rattle.std.specs.List.{AllByRecursion}
use Rattle.asn_base.specs.Seen.{item_of}
use Rattle.asn_base.specs.Typed.{IsWithinLimit}
use Rattle.asn_base.proofs.numbers.lemma_items_within_limit.Goals as goal
use Rattle.asn_base.specs.proving.Lists.{drop_is, left_at, onward}

pub loop-i-preserved : goal.loop-i-preserved
loop-i-preserved c =
    let a = left_at (AllByRecursion (λ i. IsWithinLimit i.number)) _ _ c.loop-i.i (drop_is item_of c.args.items.now c.loop-i.i c.index-items-i.result c.loop-i-test.true c.index-items-i.is) c.loop-i.invariant in
    onward a (λ h. h.1) (λ h. (c.lemma_item_within_limit.ensures, h))
