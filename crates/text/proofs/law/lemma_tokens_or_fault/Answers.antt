use Rattle.text.proofs.Complete.{no_fault}
use Rattle.text.proofs.law.lemma_tokens_or_fault.Goals as goal

pub returns : goal.returns
returns c = λ x ts e t l s. no_fault x ts e s t l
