use Rattle.asn_base.proofs.Bounding.{ends}
use Rattle.asn_base.proofs.bounds.are_ends.Goals as goal
use Rattle.asn_base.specs.proving.Lists.{onward}

pub returns : goal.returns
returns c = let a = ends c.args.floor c.args.range.least c.args.range.greatest in onward c.are_bounds_of.ensures a.0 a.1
