use Rattle.std.proofs.Common.{refl, ap}
use Rattle.asn_base.specs.Seen.{kind_of}
use Rattle.asn_base.proofs.Leaves.{octets_fits}
use Rattle.asn_base.proofs.leaf.fits_octets.Goals as goal

pub returns-in-OctetString : goal.returns-in-OctetString
returns-in-OctetString c = octets_fits (ap kind_of c.in-OctetString.is) refl c.has_allowed_octets.ensures.octets c.has_allowed_octets.ensures.size
