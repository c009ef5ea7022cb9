use Rattle.asn_base.specs.Schemas.{IsNumber, IsSize}
use Rattle.ranges.proofs.Ends.{some_number, rooted, all_numbers, all_sizes}
use Rattle.ranges.proofs.law.bounds.Goals as goal

pub returns-clause-some : goal.returns-clause-some
returns-clause-some c = some_number

pub returns-clause-numbers : goal.returns-clause-numbers
returns-clause-numbers c = λ k rs r l g. rooted IsNumber k rs r (λ z i. tt) l g

pub returns-clause-sizes : goal.returns-clause-sizes
returns-clause-sizes c = λ k rs r s l g. rooted IsSize k rs r s l g

pub returns-clause-any_number_ : goal.returns-clause-any_number_
returns-clause-any_number_ c = all_numbers

pub returns-clause-any_size_ : goal.returns-clause-any_size_
returns-clause-any_size_ c = all_sizes
