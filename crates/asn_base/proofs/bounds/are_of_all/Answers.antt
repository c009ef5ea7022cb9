use Rattle.asn_base.proofs.Bounding.{of_all}
use Rattle.asn_base.proofs.bounds.are_of_all.Goals as goal
use Rattle.asn_base.specs.proving.Lists.{onward}

pub returns : goal.returns
returns c = let a = of_all c.args.floor c.args.range.least c.args.range.greatest in onward c.are_bounds_of.ensures a.0 a.1
