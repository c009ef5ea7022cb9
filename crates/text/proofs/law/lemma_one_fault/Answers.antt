use Rattle.text.proofs.Faults.{lemma_one_fault}
use Rattle.text.proofs.law.lemma_one_fault.Goals as goal

pub returns : goal.returns
returns c = lemma_one_fault
