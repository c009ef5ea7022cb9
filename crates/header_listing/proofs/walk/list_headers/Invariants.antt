use Rattle.header_listing.specs.proving.Going.{IsGoing, weight}
use Rattle.header_listing.proofs.walk.list_headers.Given as goal

abbrev pub invariant-loop-listing : goal.invariant-loop-listing
invariant-loop-listing l = IsGoing l.octets l.limit l.listing

abbrev pub decreases-loop-listing : goal.decreases-loop-listing
decreases-loop-listing l = weight l.listing
