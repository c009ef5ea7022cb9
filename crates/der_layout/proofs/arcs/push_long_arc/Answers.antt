use Rattle.std.proofs.Common.{arith, length, ap}
use Rattle.der_layout.proofs.Room.{most_septets}
use Rattle.der_layout.proofs.arcs.push_long_arc.Goals as goal

pub push_septets-requires : goal.push_septets-requires
push_septets-requires c = omega (arith, ap length c.new-few.ensures, most_septets c.args.number c.ranges.number.fits)
