use Rattle.additions.proofs.OneFault as one
use Rattle.additions.proofs.law.one_fault.Goals as goal

pub returns : goal.returns
returns c = one.one_fault
