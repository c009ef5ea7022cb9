use Rattle.type_table.proofs.Numbered.{roots_there, assignment_there}
use Rattle.type_table.proofs.law.lemma_numbered_there.Goals as goal

pub returns-clause-roots : goal.returns-clause-roots
returns-clause-roots c = roots_there

pub returns-clause-assigned : goal.returns-clause-assigned
returns-clause-assigned c = assignment_there
