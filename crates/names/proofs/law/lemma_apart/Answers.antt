use Rattle.names.proofs.Standings.{are_apart}
use Rattle.names.proofs.law.lemma_apart.Goals as goal

pub returns : goal.returns
returns c = are_apart
