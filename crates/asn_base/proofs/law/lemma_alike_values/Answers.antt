use Rattle.asn_base.proofs.AlikeOrNot.{decided}
use Rattle.asn_base.proofs.Levels.{same_groups, same_levels}
use Rattle.asn_base.proofs.law.lemma_alike_values.Goals as goal

pub returns : goal.returns
returns c = record { groups = same_groups; levels = λ s m n t v w a x y. same_levels a x y; decided = λ s m n t v w x y. decided x y }
