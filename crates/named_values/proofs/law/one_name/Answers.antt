use Rattle.named_values.proofs.Once.{one_name}
use Rattle.named_values.proofs.law.one_name.Goals as goal

pub returns : goal.returns
returns c = λ p text a b k m n. one_name p text a b k.read.apart m n
