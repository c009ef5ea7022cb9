use Rattle.notation.specs.ConstraintGrammar.{constraint}
use Rattle.notation.specs.ConstraintReading.{constraint_at}
use Rattle.grammar.specs.Reading.{is_open}
use Rattle.notation.proofs.ConstraintPlaces.{flat_one, constraint_ruled, constraint_grows}
use Rattle.notation.proofs.law.lemma_one_constraint.Goals as goal

pub returns : goal.returns
returns c = flat_one constraint is_open constraint_at constraint_ruled constraint_grows
