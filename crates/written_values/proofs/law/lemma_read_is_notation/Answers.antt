use Rattle.written_values.proofs.Texts.{is_notation}
use Rattle.written_values.proofs.law.lemma_read_is_notation.Goals as goal

pub returns : goal.returns
returns c = is_notation c.lemma_values_are_read.ensures
