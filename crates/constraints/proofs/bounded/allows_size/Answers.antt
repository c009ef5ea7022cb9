use Rattle.std.proofs.Common.{rules}
use Rattle.constraints.proofs.bounded.allows_size.Goals as goal

pub returns : goal.returns
returns c = λ k u. (let e = c.allows_number.ensures k u in search rules)
