use Rattle.notation.specs.ConstraintGrammar.{size}
use Rattle.notation.specs.ConstraintReading.{is_size, size_at}
use Rattle.notation.proofs.ConstraintPlaces.{flat_one, size_ruled, size_grows}
use Rattle.notation.proofs.law.lemma_one_size.Goals as goal

pub returns : goal.returns
returns c = flat_one size is_size size_at size_ruled size_grows
