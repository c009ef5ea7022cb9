use Rattle.std.proofs.Common.{arith}
use Rattle.packed_readings.proofs.Known.{starts_at_none, one_more, none_more}
use Rattle.packed_readings.proofs.character.greatest_code.Goals as goal

pub loop-code-init : goal.loop-code-init
loop-code-init c = λ n l. starts_at_none n c.args.alphabet.now l

pub loop-code-preserved : goal.loop-code-preserved
loop-code-preserved c = λ n l. one_more n c.loop-code.greatest c.loop-code.code-index c.max-greatest.result c.args.alphabet.now c.max-greatest.ensures c.loop-code-test.true (c.loop-code.invariant n l)

pub returns : goal.returns
returns c = λ n l. none_more n c.loop-code.greatest c.loop-code.code-index c.args.alphabet.now (omega (arith, c.loop-code-test.false, c.loop-code.auto.code-index-end)) (c.loop-code.invariant n l)
