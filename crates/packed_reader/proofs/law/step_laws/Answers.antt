use Rattle.packed_reader.proofs.Stepwise.{all_read}
use Rattle.packed_reader.proofs.law.step_laws.Goals as goal

pub returns : goal.returns
returns c = λ s l t n b i. all_read s i l t n b
