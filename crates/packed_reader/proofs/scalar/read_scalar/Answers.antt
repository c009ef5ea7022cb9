use Rattle.asn_base.specs.Seen.{kind_of}
use Rattle.bits.specs.Left.{bits_left}
use Rattle.packed_reader.specs.Code.{scalar_value}
use Rattle.packed_reader.proofs.Plans.{reading_shorter}
use Rattle.packed_reader.proofs.Scalars.{light, scalar_steps}
use Rattle.packed_reader.proofs.scalar.read_scalar.Goals as goal

pub returns-in-Some-clause-steps : goal.returns-in-Some-clause-steps
returns-in-Some-clause-steps c l k n value =
    scalar_steps c.args.reader.code.now c.schema.result.now l value c.args.reader.id.index k n (bits_left c.args.bits.now)
    (bits_left c.take_scalar.new.bits) (kind_of c.core-core.result.now) c.core-core.ensures.is.0 c.in-Some.scalar c.schema.ensures
    c.core-core.ensures.is.1 c.in-Some.ensures

pub returns-in-Some-clause-shorter : goal.returns-in-Some-clause-shorter
returns-in-Some-clause-shorter c =
    let k = kind_of c.core-core.result.now in
    reading_shorter (c.leaf_laws.ensures c.schema.result.now 0 k c.core-core.ensures.sound) (bits_left c.args.bits.now)
    (bits_left c.take_scalar.new.bits) (scalar_value c.in-Some.scalar)
    (light 0 k (bits_left c.args.bits.now) (bits_left c.take_scalar.new.bits) c.in-Some.scalar c.in-Some.ensures)
