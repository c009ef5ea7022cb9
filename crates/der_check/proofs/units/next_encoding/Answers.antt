use Rattle.std.proofs.Common.{length}
use Rattle.der_check.proofs.Split.{unit_at}
use Rattle.der_check.proofs.units.next_encoding.Goals as goal

pub returns-in-Err-clause-none : goal.returns-in-Err-clause-none
returns-in-Err-clause-none c = λ g x r u e l. c.in-Err.ensures.none g u.constructed (length u.header) u.contents r (unit_at r c.args.octets.now u e l)
