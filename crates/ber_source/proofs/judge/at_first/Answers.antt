use Rattle.std.proofs.Common.{refl}
use Rattle.ber_source.proofs.judge.at_first.Goals as goal

pub returns : goal.returns
returns c s = record { last = refl; fit = λ h. tt }
