use Rattle.front_end.proofs.Excluding.{same_list}
use Rattle.front_end.proofs.law.one_list.Goals as goal

pub returns : goal.returns
returns c = same_list c.lemma_one_list_of_tokens.ensures c.lemma_one_module.ensures
