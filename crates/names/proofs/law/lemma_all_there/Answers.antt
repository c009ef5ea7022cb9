use Rattle.names.proofs.Readiness as readiness
use Rattle.names.proofs.law.lemma_all_there.Goals as goal

pub returns : goal.returns
returns c = readiness.all_there
