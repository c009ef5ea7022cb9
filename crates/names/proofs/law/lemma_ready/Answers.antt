use Rattle.names.proofs.Readiness as readiness
use Rattle.names.proofs.law.lemma_ready.Goals as goal

pub returns : goal.returns
returns c = readiness.ready
