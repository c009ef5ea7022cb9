use Rattle.packed_readings.proofs.LeavesRead.{leaves}
use Rattle.packed_readings.proofs.Light.{within}
use Rattle.packed_readings.proofs.law.leaf_laws.Goals as goal

pub returns : goal.returns
returns c = λ s n k i. within n k (leaves s k i)
