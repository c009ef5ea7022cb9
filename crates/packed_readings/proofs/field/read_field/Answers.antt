use Rattle.bits.specs.Left.{bits_left}
use Rattle.packed_readings.proofs.Steps.{field_taken}
use Rattle.packed_readings.proofs.field.read_field.Goals as goal

pub returns-clause-is : goal.returns-clause-is
returns-clause-is c = field_taken c.args.width c.take.result (bits_left c.args.bits.now) (bits_left c.take.new.self) c.take.ensures.taken c.take.ensures.small
