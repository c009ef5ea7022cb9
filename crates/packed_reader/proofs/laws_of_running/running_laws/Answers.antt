use Rattle.packed_reader.proofs.RunningSteps.{runs_same}
use Rattle.packed_reader.proofs.laws_of_running.running_laws.Goals as goal

pub returns : goal.returns
returns c = λ s l t k n b. runs_same s l t k n b
