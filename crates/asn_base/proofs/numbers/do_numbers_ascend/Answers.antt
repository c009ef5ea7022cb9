use Rattle.std.proofs.Common.{arith, ◌+◌, ◌<◌, length, map, sym, ◌∙◌, true≢false}
use Rattle.asn_base.specs.Seen.{item_of}
use Rattle.asn_base.proofs.Leaves.{yes, no}
use Rattle.asn_base.proofs.Ascending.{Before, adjacent_at, adjacent_end, numbers_by, not_adjacent, next_pair}
use Rattle.asn_base.proofs.numbers.do_numbers_ascend.Goals as goal
use Rattle.asn_base.specs.proving.Lists.{drop_is, length_mapped}

pub returns-then-not-is_before : goal.returns-then-not-is_before
returns-then-not-is_before c =
    let xs = map item_of c.args.items.now in
    let i = c.loop-i.i in
    let l : i + 1 < length c.args.items.now = omega (arith, c.loop-i-test.true, c.saturating_sub-last.ensures) in
    let b = adjacent_at Before xs i _ _ (drop_is item_of c.args.items.now i c.index-items-i.result (omega (arith, l)) c.index-items-i.is) (drop_is item_of c.args.items.now (i + 1) c.index-items-i-in-loop-i.result l c.index-items-i-in-loop-i.is) in
    no (λ h. not_adjacent c.loop-i.invariant b (λ k. true≢false (sym (c.is_before.ensures.1 k) ∙ c.if-not-is_before.true)) ((numbers_by xs).1 h))

pub loop-i-preserved : goal.loop-i-preserved
loop-i-preserved c =
    let xs = map item_of c.args.items.now in
    let i = c.loop-i.i in
    let l : i + 1 < length c.args.items.now = omega (arith, c.loop-i-test.true, c.saturating_sub-last.ensures) in
    let b = adjacent_at Before xs i _ _ (drop_is item_of c.args.items.now i c.index-items-i.result (omega (arith, l)) c.index-items-i.is) (drop_is item_of c.args.items.now (i + 1) c.index-items-i-in-loop-i.result l c.index-items-i-in-loop-i.is) in
    next_pair c.loop-i.invariant b (c.is_before.ensures.0 c.if-not-is_before.false)

pub returns : goal.returns
returns c =
    let xs = map item_of c.args.items.now in
    yes ((numbers_by xs).0 (c.loop-i.invariant.1 (adjacent_end Before xs c.loop-i.i (omega (arith, length_mapped item_of c.args.items.now, c.loop-i-test.false, c.saturating_sub-last.ensures)))))
