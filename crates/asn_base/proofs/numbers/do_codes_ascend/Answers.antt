use Rattle.std.proofs.Common.{arith, ◌+◌, ◌<◌, length}
use Rattle.asn_base.proofs.Leaves.{yes, no}
use Rattle.asn_base.proofs.Ascending.{adjacent_at, adjacent_end, codes_by, not_adjacent, next_pair}
use Rattle.asn_base.proofs.numbers.do_codes_ascend.Goals as goal
use Rattle.asn_base.specs.proving.Lists.{drop_here}

pub returns-then-codes-i : goal.returns-then-codes-i
returns-then-codes-i c =
    let xs = c.args.codes.now in
    let i = c.loop-i.i in
    let l : i + 1 < length xs = omega (arith, c.loop-i-test.true, c.saturating_sub-last.ensures) in
    let b = adjacent_at (λ x y. x < y) xs i _ _ (drop_here xs i 0 (omega (arith, l))) (drop_here xs (i + 1) 0 l) in
    no (λ h. not_adjacent c.loop-i.invariant b (λ k. let g = c.if-codes-i.true in omega (arith, g, k)) ((codes_by xs).1 h))

pub loop-i-preserved : goal.loop-i-preserved
loop-i-preserved c =
    let xs = c.args.codes.now in
    let i = c.loop-i.i in
    let l : i + 1 < length xs = omega (arith, c.loop-i-test.true, c.saturating_sub-last.ensures) in
    let b = adjacent_at (λ x y. x < y) xs i _ _ (drop_here xs i 0 (omega (arith, l))) (drop_here xs (i + 1) 0 l) in
    next_pair c.loop-i.invariant b (let g = c.if-codes-i.false in omega (arith, g))

pub returns : goal.returns
returns c =
    let xs = c.args.codes.now in
    yes ((codes_by xs).0 (c.loop-i.invariant.1 (adjacent_end (λ x y. x < y) xs c.loop-i.i (omega (arith, c.loop-i-test.false, c.saturating_sub-last.ensures)))))
