use Rattle.der_check.specs.Sets.{climbs, passes}
use Rattle.der_check.proofs.sets.next_last.Goals as goal

pub returns-then-not-is_known-clause-some : goal.returns-then-not-is_known-clause-some
returns-then-not-is_known-clause-some c = λ cs r. passes (c.is_known.ensures.no c.if-not-is_known.true cs r)

pub returns-clause-some : goal.returns-clause-some
returns-clause-some c = λ cs r. climbs (c.is_known.ensures.yes c.if-not-is_known.false cs r) (c.is_after.ensures.0 c.if-not-is_after.false)
