use Rattle.bits.specs.Left.{bits_left}
use Rattle.packed_reader.proofs.OpenOctets.{octets_shorter}
use Rattle.packed_reader.proofs.open.take_octets.Goals as goal

pub returns-else-is_empty-clause-shorter : goal.returns-else-is_empty-clause-shorter
returns-else-is_empty-clause-shorter c = octets_shorter c.octets_laws.ensures (bits_left c.args.bits.now) (bits_left c.read_octets.new.bits) c.in-Ok.octets.items c.in-Ok.ensures.ok
