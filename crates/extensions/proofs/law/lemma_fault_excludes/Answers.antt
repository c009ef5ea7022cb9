use Rattle.extensions.proofs.Faults.{no_other_fault}
use Rattle.extensions.proofs.law.lemma_fault_excludes.Goals as goal

pub returns : goal.returns
returns c = no_other_fault c.lemma_faults_exclude.ensures c.lemma_fault_excludes.ensures
