use Rattle.value_diagnostics.proofs.There.{there}
use Rattle.value_diagnostics.proofs.law.lemma_types_exist.Goals as goal

pub returns : goal.returns
returns c = λ w levels left i os M n f l b s m. there w l b s m
