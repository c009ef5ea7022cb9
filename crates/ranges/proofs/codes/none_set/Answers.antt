use Rattle.ranges.proofs.Bits.{none_if_zero}
use Rattle.ranges.proofs.codes.none_set.Goals as goal

pub returns : goal.returns
returns c = none_if_zero c.args.bits c.ranges.bits.fits
