use Rattle.std.proofs.Common.{sym, subst, map}
use Rattle.std.specs.Prelude.{◌↔◌, IsTrue, Some}
use Rattle.asn_base.specs.Seen.{range_of}
use Rattle.asn_base.specs.Schemas.{IsGreatest}
use Rattle.asn_base.specs.proving.Bounding.{IsInRoot}
use Rattle.asn_base.proofs.Bounding.{no_greatest}
use Rattle.asn_base.proofs.bounds.is_greatest_of.Goals as goal

pub returns-in-None : goal.returns-in-None
returns-in-None c =
    subst (λ q. IsTrue c.are_open_above.result ↔ IsGreatest (IsInRoot c.args.floor (Some (map range_of c.args.ranges.now))) q) (sym c.in-None.is)
    (no_greatest c.args.floor c.args.ranges.now c.are_open_above.result c.are_open_above.ensures)
