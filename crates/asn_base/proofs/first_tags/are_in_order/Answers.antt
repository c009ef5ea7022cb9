use Rattle.std.proofs.Common.{arith, ◌+◌, ◌<◌, length, map, sym, ◌∙◌, true≢false}
use Rattle.asn_base.specs.Seen.{alternative_of}
use Rattle.asn_base.specs.proving.Firsts.{IsHeadBefore}
use Rattle.asn_base.proofs.Leaves.{yes, no}
use Rattle.asn_base.proofs.Ascending.{adjacent_at, adjacent_end, not_adjacent, next_pair}
use Rattle.asn_base.proofs.FirstTags.{in_order}
use Rattle.asn_base.proofs.first_tags.are_in_order.Goals as goal
use Rattle.asn_base.specs.proving.Lists.{drop_is, length_mapped}

pub returns-then-not-is_before : goal.returns-then-not-is_before
returns-then-not-is_before c =
    let R = IsHeadBefore c.args.types.now in
    let xs = map alternative_of c.args.alternatives.now in
    let i = c.loop-i.i in
    let l : i + 1 < length c.args.alternatives.now = omega (arith, c.loop-i-test.true, c.saturating_sub-last.ensures) in
    let b = adjacent_at R xs i _ _ (drop_is alternative_of c.args.alternatives.now i c.index-alternatives-i.result (omega (arith, l)) c.index-alternatives-i.is) (drop_is alternative_of c.args.alternatives.now (i + 1) c.index-alternatives-i-in-loop-i.result l c.index-alternatives-i-in-loop-i.is) in
    no (λ h. not_adjacent c.loop-i.invariant b (λ k. true≢false (sym (c.is_before.ensures.1 k) ∙ c.if-not-is_before.true)) ((in_order c.args.types.now xs c.requires).1 h))

pub loop-i-preserved : goal.loop-i-preserved
loop-i-preserved c =
    let R = IsHeadBefore c.args.types.now in
    let xs = map alternative_of c.args.alternatives.now in
    let i = c.loop-i.i in
    let l : i + 1 < length c.args.alternatives.now = omega (arith, c.loop-i-test.true, c.saturating_sub-last.ensures) in
    let b = adjacent_at R xs i _ _ (drop_is alternative_of c.args.alternatives.now i c.index-alternatives-i.result (omega (arith, l)) c.index-alternatives-i.is) (drop_is alternative_of c.args.alternatives.now (i + 1) c.index-alternatives-i-in-loop-i.result l c.index-alternatives-i-in-loop-i.is) in
    next_pair c.loop-i.invariant b (c.is_before.ensures.0 c.if-not-is_before.false)

pub returns : goal.returns
returns c =
    let xs = map alternative_of c.args.alternatives.now in
    yes ((in_order c.args.types.now xs c.requires).0 (c.loop-i.invariant.1 (adjacent_end (IsHeadBefore c.args.types.now) xs c.loop-i.i (omega (arith, length_mapped alternative_of c.args.alternatives.now, c.loop-i-test.false, c.saturating_sub-last.ensures)))))
