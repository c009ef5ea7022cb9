use Rattle.notation.proofs.ConstraintPlaces.{size_ruled, size_grows}
use Rattle.notation.proofs.law.lemma_sizes_are_read.Goals as goal

pub returns-clause-read : goal.returns-clause-read
returns-clause-read c = size_ruled

pub returns-clause-grows : goal.returns-clause-grows
returns-clause-grows c = size_grows
