use Rattle.header_listing.proofs.matching.+holder.Given as goal

abbrev pub decreases-holder : goal.decreases-holder
decreases-holder l = l.nested
