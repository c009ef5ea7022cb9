use Rattle.packed_readings.proofs.Octets.{octets}
use Rattle.packed_readings.proofs.law.octets_laws.Goals as goal

pub returns : goal.returns
returns c = octets
