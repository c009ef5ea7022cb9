use Rattle.written_values.proofs.Texts.{one_wrong}
use Rattle.written_values.proofs.law.lemma_one_fault.Goals as goal

pub returns : goal.returns
returns c = one_wrong c.lemma_one_list_of_tokens.ensures c.lemma_tokens_or_fault.ensures c.lemma_one_fault.ensures c.lemma_one_value_fault.ensures
