use Rattle.value_notations.proofs.Groups.{next_digit}
use Rattle.value_notations.proofs.digits.octet.Goals as goal

pub loop-digit-preserved : goal.loop-digit-preserved
loop-digit-preserved c = next_digit c.args.base c.loop-digit.number c.loop-digit.digit-index c.args.digits.now c.requires.base c.requires.below c.requires.fits c.loop-digit-test.true c.loop-digit.invariant
