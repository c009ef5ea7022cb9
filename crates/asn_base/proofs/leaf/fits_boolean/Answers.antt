use Rattle.std.proofs.Common.{refl, ap}
use Rattle.asn_base.specs.Seen.{kind_of}
use Rattle.asn_base.proofs.Leaves.{boolean_fits}
use Rattle.asn_base.proofs.leaf.fits_boolean.Goals as goal

pub returns-in-Boolean : goal.returns-in-Boolean
returns-in-Boolean c = boolean_fits (ap kind_of c.in-Boolean.is) refl
