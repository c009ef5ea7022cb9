use Rattle.std.proofs.Common.{refl}
use Rattle.range_ends.proofs.posting.next_post.Goals as goal

pub returns-clause-next : goal.returns-clause-next
returns-clause-next c = record { value_is = refl; rest = refl; leads = c.in_ok-root.ensures.rerouted }
