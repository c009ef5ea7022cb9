use Rattle.text.proofs.Complete.{one_list}
use Rattle.text.proofs.law.lemma_one_list_of_tokens.Goals as goal

pub returns : goal.returns
returns c = one_list
