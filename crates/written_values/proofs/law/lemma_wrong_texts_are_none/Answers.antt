use Rattle.written_values.proofs.Texts.{wrong_is_none}
use Rattle.written_values.proofs.law.lemma_wrong_texts_are_none.Goals as goal

pub returns : goal.returns
returns c = wrong_is_none c.lemma_one_list_of_tokens.ensures c.lemma_tokens_or_fault.ensures c.lemma_values_are_read.ensures
