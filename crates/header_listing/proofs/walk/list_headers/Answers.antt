use Rattle.header_listing.proofs.Listed.{listed}
use Rattle.header_listing.proofs.walk.list_headers.Goals as goal

pub returns : goal.returns
returns c = (c.loop-listing.listing.offset, listed c.loop-listing.invariant (λ s. c.loop-listing-test.false))

pub returns-then-not-leave : goal.returns-then-not-leave
returns-then-not-leave c = (
  c.leave.new.self.offset,
  c.leave.ensures.none c.args.octets.now c.args.limit c.if-not-leave.true c.loop-listing.invariant,
)
