use Rattle.ber_reader.proofs.Judging.{lemma_one_path}
use Rattle.ber_reader.proofs.law.lemma_one_path.Goals as goal

pub returns : goal.returns
returns c = lemma_one_path
