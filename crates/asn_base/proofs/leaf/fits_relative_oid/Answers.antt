use Rattle.std.proofs.Common.{refl, ap}
use Rattle.asn_base.specs.Seen.{kind_of}
use Rattle.asn_base.proofs.Leaves.{relative_fits}
use Rattle.asn_base.proofs.leaf.fits_relative_oid.Goals as goal

pub returns-in-RelativeOid : goal.returns-in-RelativeOid
returns-in-RelativeOid c = relative_fits (ap kind_of c.in-RelativeOid.is) refl c.is_relative_oid.ensures
