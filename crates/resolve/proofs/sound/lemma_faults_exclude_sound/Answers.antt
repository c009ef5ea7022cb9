use Rattle.resolve.proofs.Exclusion.{fault_not_sound}
use Rattle.resolve.proofs.sound.lemma_faults_exclude_sound.Goals as goal

pub returns : goal.returns
returns c = fault_not_sound
