use Rattle.type_table.proofs.OneFirst.{one_in_list}
use Rattle.type_table.proofs.law.lemma_one_first_in_list.Goals as goal

pub returns : goal.returns
returns c = one_in_list
