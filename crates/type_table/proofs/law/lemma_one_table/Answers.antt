use Rattle.type_table.proofs.Once as once
use Rattle.type_table.proofs.law.lemma_one_table.Goals as goal

pub returns : goal.returns
returns c = λ ms hs gs roots ts us apart a b. once.lemma_one_table ms apart hs gs roots ts us a b
