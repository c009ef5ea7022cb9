use Rattle.laws_print.proofs.Reading.{has_tokens}
use Rattle.laws_print.proofs.law.lemma_printed_has_tokens.Goals as goal

pub returns : goal.returns
returns c = λ s t v schema h u short. has_tokens s 64 t v schema h u short
