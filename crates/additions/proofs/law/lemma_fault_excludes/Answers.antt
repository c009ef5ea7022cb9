use Rattle.additions.proofs.Breaking.{no_other_fault}
use Rattle.additions.proofs.law.lemma_fault_excludes.Goals as goal

pub returns : goal.returns
returns c = no_other_fault
