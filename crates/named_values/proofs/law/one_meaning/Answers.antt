use Rattle.named_values.proofs.Once.{meant_refused, one_meant}
use Rattle.named_values.proofs.law.one_meaning.Goals as goal

pub returns-clause-one : goal.returns-clause-one
returns-clause-one c = one_meant c.lemma_one_notation.ensures c.one_value.ensures

pub returns-clause-refused : goal.returns-clause-refused
returns-clause-refused c = meant_refused c.lemma_one_notation.ensures c.lemma_wrong_texts_are_none.ensures
