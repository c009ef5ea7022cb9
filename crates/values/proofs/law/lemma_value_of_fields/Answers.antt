use Rattle.value_notations.specs.Notations.{of_fields}
use Rattle.values.proofs.Wholes.{groups_of}
use Rattle.values.proofs.law.lemma_value_of_fields.Goals as goal

pub returns : goal.returns
returns c = λ p os M k e cs n fs ps r i a f. of_fields i a.arranged f (groups_of a f)
