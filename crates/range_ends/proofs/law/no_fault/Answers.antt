use Rattle.range_ends.proofs.First.{first_wrong}
use Rattle.range_ends.proofs.law.no_fault.Goals as goal

pub returns : goal.returns
returns c = first_wrong
