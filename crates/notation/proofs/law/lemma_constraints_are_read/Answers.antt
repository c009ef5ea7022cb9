use Rattle.notation.proofs.ConstraintPlaces.{constraint_ruled, constraint_grows}
use Rattle.notation.proofs.law.lemma_constraints_are_read.Goals as goal

pub returns-clause-read : goal.returns-clause-read
returns-clause-read c = constraint_ruled

pub returns-clause-grows : goal.returns-clause-grows
returns-clause-grows c = constraint_grows
