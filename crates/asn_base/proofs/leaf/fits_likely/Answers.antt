use Rattle.std.proofs.Common.{refl, ap}
use Rattle.asn_base.specs.Seen.{kind_of}
use Rattle.asn_base.proofs.Leaves.{octets_fits_if}
use Rattle.asn_base.proofs.leaf.fits_likely.Goals as goal

pub returns-in-OctetString : goal.returns-in-OctetString
returns-in-OctetString c = λ y. octets_fits_if (ap kind_of c.in-OctetString.is) refl c.has_likely_octets.ensures.octets (c.has_likely_octets.ensures.size y)
