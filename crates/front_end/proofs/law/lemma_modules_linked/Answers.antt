use Rattle.front_end.proofs.Excluding.{all_spelled}
use Rattle.front_end.proofs.law.lemma_modules_linked.Goals as goal

pub returns : goal.returns
returns c = λ xs ms p z l. c.lemma_linked_program.ensures ms p l (all_spelled c.lemma_modules_are_spelled.ensures xs ms z)
