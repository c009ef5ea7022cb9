use Rattle.written_values.proofs.Texts.{lemma_one_notation}
use Rattle.written_values.proofs.law.lemma_one_notation.Goals as goal

pub returns : goal.returns
returns c = lemma_one_notation c.lemma_one_list_of_tokens.ensures c.lemma_one_value.ensures
