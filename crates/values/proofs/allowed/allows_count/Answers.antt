use Rattle.std.proofs.Common.{rules}
use Rattle.values.proofs.allowed.allows_count.Goals as goal

pub returns : goal.returns
returns c = λ k u. (let e = c.allows_number.ensures k u in search rules)
