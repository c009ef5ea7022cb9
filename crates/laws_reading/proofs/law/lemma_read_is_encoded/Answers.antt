use Rattle.laws_reading.proofs.Saids.{said}
use Rattle.laws_reading.proofs.law.lemma_read_is_encoded.Goals as goal

pub returns : goal.returns
returns c = said
