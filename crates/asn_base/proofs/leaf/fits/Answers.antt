use Rattle.asn_base.proofs.Leaves.{alternative_fits_none}
use Rattle.asn_base.proofs.leaf.fits.Goals as goal

pub returns : goal.returns
returns g c = alternative_fits_none c.in-Alternative.ensures
