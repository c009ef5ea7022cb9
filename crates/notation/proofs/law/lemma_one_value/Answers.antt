use Rattle.notation.proofs.Places.{one_tree}
use Rattle.notation.proofs.law.lemma_one_value.Goals as goal

pub returns : goal.returns
returns c = one_tree
