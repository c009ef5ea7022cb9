use Rattle.std.proofs.Common.{arith}
use Rattle.laws_print.proofs.Reading.{read_back}
use Rattle.laws_print.proofs.law.lemma_printed_is_read_back.Goals as goal

pub returns : goal.returns
returns c = λ s t v ts schema h l. read_back s 64 t v schema h c.lemma_values_are_read.ensures c.lemma_one_list_of_tokens.ensures (omega arith) ts l
