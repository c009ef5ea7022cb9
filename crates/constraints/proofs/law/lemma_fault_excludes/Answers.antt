use Rattle.constraints.proofs.Excluding.{excludes}
use Rattle.constraints.proofs.law.lemma_fault_excludes.Goals as goal

pub returns : goal.returns
returns c = excludes
