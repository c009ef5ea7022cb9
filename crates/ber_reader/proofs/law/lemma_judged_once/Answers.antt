use Rattle.ber_reader.proofs.Judging.{once_judged}
use Rattle.ber_reader.proofs.law.lemma_judged_once.Goals as goal

pub returns : goal.returns
returns c = once_judged
