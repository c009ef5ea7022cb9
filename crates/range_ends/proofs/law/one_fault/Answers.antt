use Rattle.range_ends.proofs.First.{first_same}
use Rattle.range_ends.proofs.law.one_fault.Goals as goal

pub returns : goal.returns
returns c = first_same
