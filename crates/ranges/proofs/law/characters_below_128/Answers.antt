use Rattle.ranges.proofs.Tables.{below_128}
use Rattle.ranges.proofs.law.characters_below_128.Goals as goal

pub returns : goal.returns
returns c = below_128
