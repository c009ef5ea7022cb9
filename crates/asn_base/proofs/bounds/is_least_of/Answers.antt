use Rattle.std.proofs.Common.{sym, subst, ◌∙◌, ◌≡◌, false, map}
use Rattle.std.specs.Prelude.{◌↔◌, IsTrue, None, Some, is_none}
use Rattle.asn_base.specs.Seen.{range_of}
use Rattle.asn_base.specs.Schemas.{IsLeast}
use Rattle.asn_base.specs.proving.Bounding.{IsInRoot}
use Rattle.asn_base.proofs.Leaves.{no}
use Rattle.asn_base.proofs.Bounding.{no_least, none_there, from_not, floor_is_bound}
use Rattle.asn_base.proofs.bounds.is_least_of.Goals as goal

pub returns-then-is_none : goal.returns-then-is_none
returns-then-is_none c =
    subst (λ q. IsTrue c.are_open_below.result ↔ IsLeast (IsInRoot c.args.floor (Some (map range_of c.args.ranges.now))) q) (sym c.in-None.is)
    (subst (λ q. IsTrue c.are_open_below.result ↔ IsLeast (IsInRoot q (Some (map range_of c.args.ranges.now))) None) (none_there c.args.floor (from_not c.args.floor c.is_none.result (sym c.is_none.ensures) ∙ c.if-is_none.true)) (no_least c.args.ranges.now c.are_open_below.result c.are_open_below.ensures))

pub returns-else-is_none : goal.returns-else-is_none
returns-else-is_none c =
    let e : is_none c.args.floor ≡ false = from_not c.args.floor c.is_none.result (sym c.is_none.ensures) ∙ c.if-is_none.false in
    subst (λ q. IsTrue c.is_none.result ↔ IsLeast (IsInRoot c.args.floor (Some (map range_of c.args.ranges.now))) q) (sym c.in-None.is)
    (subst (λ b. IsTrue b ↔ IsLeast (IsInRoot c.args.floor (Some (map range_of c.args.ranges.now))) None) (sym c.if-is_none.false) (no (floor_is_bound c.args.floor (Some (map range_of c.args.ranges.now)) e)))
