use Rattle.type_table.proofs.Numbered.{is_closed, is_linked}
use Rattle.type_table.proofs.law.lemma_numbered_linked.Goals as goal

pub returns-clause-closed : goal.returns-clause-closed
returns-clause-closed c = is_closed

pub returns-clause-linked : goal.returns-clause-linked
returns-clause-linked c = is_linked
