use Rattle.std.proofs.Common.{refl, ap}
use Rattle.asn_base.specs.Seen.{kind_of}
use Rattle.asn_base.proofs.Leaves.{null_fits}
use Rattle.asn_base.proofs.leaf.fits_null.Goals as goal

pub returns-in-Null : goal.returns-in-Null
returns-in-Null c = null_fits (ap kind_of c.in-Null.is) refl
