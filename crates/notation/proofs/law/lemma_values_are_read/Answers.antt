use Rattle.notation.proofs.Places.{laws}
use Rattle.notation.proofs.law.lemma_values_are_read.Goals as goal

pub returns : goal.returns
returns c = laws
