use Rattle.names.proofs.Excluding.{names_exclude}
use Rattle.names.proofs.law.lemma_name_faults_exclude.Goals as goal

pub returns : goal.returns
returns c = names_exclude
