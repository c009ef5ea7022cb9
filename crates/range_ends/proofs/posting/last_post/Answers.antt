use Rattle.std.proofs.Common.{refl}
use Rattle.range_ends.proofs.posting.last_post.Goals as goal

pub returns-clause-last : goal.returns-clause-last
returns-clause-last c = record { value_is = refl; rest = refl; leads = c.in_ok-root.ensures.leads }
