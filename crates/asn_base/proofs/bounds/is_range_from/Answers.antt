use mir.Syntax.{w128}
use Rattle.std.proofs.Common.{subst}
use Rattle.std.proofs.lemmas.Int.{to_z-of_z}
use Rattle.std.specs.Prelude.{◌≤ℤ◌, ◌↔◌, ℤ, IsTrue, not}
use Rattle.asn_base.specs.Seen.{range_of}
use Rattle.asn_base.specs.Typed.{IsInRange}
use Rattle.asn_base.proofs.Bounding.{not_started, started}
use Rattle.asn_base.proofs.bounds.is_range_from.Goals as goal

pub returns-then-starts_from : goal.returns-then-starts_from
returns-then-starts_from c =
    subst (λ q. IsTrue c.starts_from.result ↔ ((z : ℤ) → IsInRange z (range_of c.args.range) → q ≤ℤ z)) (to_z-of_z w128 c.args.least c.ranges.least)
    (λ i. started (range_of c.args.range) _ (c.starts_from.ensures.0 i), λ f. c.if-starts_from.true)

pub returns-else-starts_from : goal.returns-else-starts_from
returns-else-starts_from c =
    subst (λ q. IsTrue (not c.holds_some.result) ↔ ((z : ℤ) → IsInRange z (range_of c.args.range) → q ≤ℤ z)) (to_z-of_z w128 c.args.least c.ranges.least)
    (not_started (range_of c.args.range) _ c.holds_some.result (λ h. let e = c.starts_from.ensures.1 h in let n = c.if-starts_from.false in cc) c.holds_some.ensures)
