use Rattle.std.proofs.Common.{arith, length, ap}
use Rattle.account_checker.proofs.Fronts.{most_of_128}
use Rattle.account_checker.proofs.leaf.after_septets.Goals as goal

pub push_septets-requires : goal.push_septets-requires
push_septets-requires c = omega (arith, ap length c.new-few.ensures, most_of_128 c.args.number c.ranges.number.fits)
