use Rattle.std.proofs.Common.{arith, length, ap}
use Rattle.primitive_writer.proofs.Digits.{most_septets}
use Rattle.primitive_writer.proofs.push.push_arc.Goals as goal

pub push_septets-requires : goal.push_septets-requires
push_septets-requires c = omega (arith, ap length c.new-few.ensures, most_septets c.args.number c.ranges.number.fits)
