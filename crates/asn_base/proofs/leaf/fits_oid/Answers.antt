use Rattle.std.proofs.Common.{refl, ap}
use Rattle.asn_base.specs.Seen.{kind_of}
use Rattle.asn_base.proofs.Leaves.{oid_fits}
use Rattle.asn_base.proofs.leaf.fits_oid.Goals as goal

pub returns-in-ObjectIdentifier : goal.returns-in-ObjectIdentifier
returns-in-ObjectIdentifier c = oid_fits (ap kind_of c.in-ObjectIdentifier.is) refl c.is_object_identifier.ensures
