use Rattle.grammar.specs.Places.{small, bounded}
use Rattle.notation.specs.Laws.{faults_agree}
use Rattle.notation.specs.Reading.{value_at}
use Rattle.notation.specs.Value.{values}
use Rattle.notation.proofs.Places.{value_reads}
use Rattle.notation.proofs.law.lemma_one_value_fault.Goals as goal

pub returns : goal.returns
returns c = λ ts start n. faults_agree values (bounded n) (value_at small n) (value_reads n) ts start
