use Rattle.std.proofs.Common.{arith, refl, below_more}
use Rattle.type_table.specs.Seen.{type_of}
use Rattle.circles.proofs.Rising.{from_all}
use Rattle.circles.proofs.ranks.parts_rise.Goals as goal

pub loop-number-preserved : goal.loop-number-preserved
loop-number-preserved c = below_more _ _ c.loop-number.invariant (c.if-not-rises.ensures refl)

pub returns : goal.returns
returns c = λ t. from_all c.args.rank c.args.ranks.now (type_of c.args.written.now).kind (λ n j l e. c.loop-number.invariant n (omega (arith, l, c.part_count-number-end.ensures, c.loop-number-test.false)) j e)
