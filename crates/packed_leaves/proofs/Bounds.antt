-- What bounds say of an allowed number or size.
use Rattle.std.proofs.Common.{◌≡◌, false, subst}
use Rattle.std.specs.Prelude.{ℤ, IfSome}
use Rattle.asn_base.specs.Types.{Constraint}
use Rattle.asn_base.specs.Typed.{IsInSome, IsAllowed}
use Rattle.asn_base.specs.Schemas.{AreBounds, IsSize}
use Rattle.packed_encodings.specs.Lengths.{IsInRootBounds}
use Rattle.packed_counts.specs.Counts.{HasLeast}
use Rattle.packed_encodings.specs.proving.Bounding.{InRoot, least_in, greatest_in, least_size}

-- what isn't extensible allows the root alone
pub in_bounds : (P : ℤ → Type 0) (c : Constraint) (z : ℤ) → AreBounds P c → P z → IsAllowed c z → c.visible.extensible ≡ false → IsInRootBounds c.visible z
in_bounds P c z b p a e =
    let q : InRoot P b.root z = (p, subst (λ r. IfSome r (IsInSome z)) (b.not_extensible e) a) in
    (least_in (InRoot P b.root) c.visible.least z b.least q, greatest_in (InRoot P b.root) c.visible.greatest z b.greatest q)

-- the least size is one
pub has_least : (c : Constraint) → AreBounds IsSize c → HasLeast c.visible
has_least c b = least_size (InRoot IsSize b.root) c.visible.least (λ z q. q.0) b.least
