use Rattle.grammar.specs.Places.{small, bounded}
use Rattle.notation.specs.ConstraintGrammar.{size, flat}
use Rattle.notation.specs.ConstraintReading.{is_size, size_at}
use Rattle.notation.specs.Laws.{faults_agree}
use Rattle.notation.proofs.ConstraintPlaces.{flat_reads, size_ruled, size_grows}
use Rattle.notation.proofs.law.lemma_one_size_fault.Goals as goal

pub returns : goal.returns
returns c = faults_agree (flat size) (bounded 0) (size_at small) (flat_reads size is_size size_at size_ruled size_grows)
