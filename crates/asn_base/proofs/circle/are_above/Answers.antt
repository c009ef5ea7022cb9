use Rattle.std.proofs.Common.{arith}
use Rattle.asn_base.specs.proving.Reaching.{AreAbove}
use Rattle.asn_base.proofs.Leaves.{yes, no}
use Rattle.asn_base.proofs.circle.are_above.Goals as goal
use Rattle.asn_base.specs.proving.Lists.{drop_here, drop_past, left_at, onward}

pub returns-then-rank_at-rank : goal.returns-then-rank_at-rank
returns-then-rank_at-rank c =
    let a = left_at (AreAbove c.args.rank c.args.ranks.now) _ _ c.loop-i.i (drop_here c.args.row.now c.loop-i.i 0 c.loop-i-test.true) c.loop-i.invariant in
    no (λ h. let f = (a.0 h).0 in omega (arith, f, c.rank_at.ensures, c.if-rank_at-rank.true))

pub loop-i-preserved : goal.loop-i-preserved
loop-i-preserved c =
    let a = left_at (AreAbove c.args.rank c.args.ranks.now) _ _ c.loop-i.i (drop_here c.args.row.now c.loop-i.i 0 c.loop-i-test.true) c.loop-i.invariant in
    onward a (λ p. p.1) (λ p. (omega (arith, c.rank_at.ensures, c.if-rank_at-rank.false), p))

pub returns : goal.returns
returns c = yes ((left_at (AreAbove c.args.rank c.args.ranks.now) _ _ c.loop-i.i (drop_past c.args.row.now c.loop-i.i c.loop-i-test.false) c.loop-i.invariant).1 tt)
