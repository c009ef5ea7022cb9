use Rattle.tagging.proofs.Taggings.{no_other_fault}
use Rattle.tagging.proofs.law.lemma_fault_excludes.Goals as goal

pub returns : goal.returns
returns c = no_other_fault
