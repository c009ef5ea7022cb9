use Rattle.ranges.proofs.Bits.{none_of_zero}
use Rattle.ranges.proofs.codes.Codes.none.Goals as goal

pub returns : goal.returns
returns c = none_of_zero
