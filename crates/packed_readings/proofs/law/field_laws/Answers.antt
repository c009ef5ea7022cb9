use Rattle.packed_readings.proofs.Fields.{bit, field, small}
use Rattle.packed_readings.proofs.law.field_laws.Goals as goal

pub returns : goal.returns
returns c = record { bit = bit; field = field; small = small }
