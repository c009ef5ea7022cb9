use Rattle.grammar.specs.Places.{small, bounded}
use Rattle.notation.specs.ConstraintGrammar.{constraint, flat}
use Rattle.notation.specs.ConstraintReading.{constraint_at}
use Rattle.grammar.specs.Reading.{is_open}
use Rattle.notation.specs.Laws.{faults_agree}
use Rattle.notation.proofs.ConstraintPlaces.{flat_reads, constraint_ruled, constraint_grows}
use Rattle.notation.proofs.law.lemma_one_constraint_fault.Goals as goal

pub returns : goal.returns
returns c = faults_agree (flat constraint) (bounded 0) (constraint_at small) (flat_reads constraint is_open constraint_at constraint_ruled constraint_grows)
