use Rattle.values.proofs.Wholes.{groups_of}
use Rattle.values.proofs.law.lemma_groups_are_whole.Goals as goal

pub returns : goal.returns
returns c = λ p os M k cs fs ps r a f. groups_of a f
