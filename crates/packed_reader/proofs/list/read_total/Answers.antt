use Rattle.bits.specs.Left.{bits_left}
use Rattle.packed_reader.proofs.Plans.{reading_shorter}
use Rattle.packed_reader.proofs.list.read_total.Goals as goal

pub returns-in-Ok-judged-clause-shorter : goal.returns-in-Ok-judged-clause-shorter
returns-in-Ok-judged-clause-shorter c = reading_shorter (c.count_laws.ensures.count c.args.full) (bits_left c.args.bits.now) (bits_left c.read_count.new.bits) c.in-Ok.count c.in-Ok.ensures.is
