use Rattle.values.proofs.OneFault.{one}
use Rattle.values.proofs.law.lemma_one_names_fault.Goals as goal

pub returns : goal.returns
returns c = λ k cs fs f g d m n a b. one k cs fs d f g m n a b
