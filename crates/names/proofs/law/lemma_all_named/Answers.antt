use Rattle.names.proofs.Standings.{are_named, standing_fault}
use Rattle.names.proofs.law.lemma_all_named.Goals as goal

pub returns-clause-named : goal.returns-clause-named
returns-clause-named c = are_named

pub returns-clause-fault : goal.returns-clause-fault
returns-clause-fault c = standing_fault
