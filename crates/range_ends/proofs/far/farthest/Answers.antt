use Rattle.std.proofs.Common.{length, arith}
use Rattle.range_ends.proofs.Doubling.{all_less}
use Rattle.range_ends.proofs.far.farthest.Goals as goal

pub returns-then-target-steps : goal.returns-then-target-steps
returns-then-target-steps c =
    all_less c.args.target.now c.loop-round.steps (length c.args.target.now) c.loop-round.far.items
    (omega (arith, c.if-target-steps.true)) c.loop-round.invariant.far

pub returns : goal.returns
returns c =
    all_less c.args.target.now c.loop-round.steps (length c.args.target.now) c.loop-round.far.items
    (omega (arith, c.loop-round.invariant.many, c.loop-round-test.false, c.loop-round.auto.round-end)) c.loop-round.invariant.far
