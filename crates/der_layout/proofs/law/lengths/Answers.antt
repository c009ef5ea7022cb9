use Rattle.der_layout.proofs.Lengths.{length_of}
use Rattle.der_layout.proofs.law.lengths.Goals as goal

pub returns : goal.returns
returns c = length_of
