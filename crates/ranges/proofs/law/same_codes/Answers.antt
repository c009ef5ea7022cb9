use Rattle.ranges.proofs.SameCodes.{same_codes}
use Rattle.ranges.proofs.law.same_codes.Goals as goal

pub returns : goal.returns
returns c = same_codes
