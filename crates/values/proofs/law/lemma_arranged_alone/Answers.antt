use Rattle.values.proofs.Wholes.{excluded}
use Rattle.values.proofs.law.lemma_arranged_alone.Goals as goal

pub returns : goal.returns
returns c = λ k cs fs ps t a d. excluded a d
