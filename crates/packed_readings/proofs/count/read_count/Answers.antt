use Rattle.bits.specs.Left.{bits_left}
use Rattle.packed_readings.proofs.Counted.{few_of_stated}
use Rattle.packed_readings.proofs.count.read_count.Goals as goal

pub returns-in-Ok-canonical-clause-few : goal.returns-in-Ok-canonical-clause-few
returns-in-Ok-canonical-clause-few c =
    few_of_stated c.args.full (bits_left c.args.bits.now) (bits_left c.read_stated.new.bits) c.in-Ok.stated c.in-Ok-canonical.count c.in-Ok.ensures c.in-Ok-canonical.ensures.ok
