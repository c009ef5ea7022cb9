use mir.Syntax.{w128}
use Rattle.std.proofs.Common.{subst}
use Rattle.std.proofs.lemmas.Int.{to_z-of_z}
use Rattle.std.specs.Prelude.{◌≤ℤ◌, ◌↔◌, ℤ, IsTrue, not}
use Rattle.asn_base.specs.Seen.{range_of}
use Rattle.asn_base.specs.Typed.{IsInRange}
use Rattle.asn_base.proofs.Bounding.{ended, not_ended}
use Rattle.asn_base.proofs.bounds.is_range_up_to.Goals as goal

pub returns-then-ends_by : goal.returns-then-ends_by
returns-then-ends_by c =
    subst (λ q. IsTrue c.ends_by.result ↔ ((z : ℤ) → IsInRange z (range_of c.args.range) → z ≤ℤ q)) (to_z-of_z w128 c.args.greatest c.ranges.greatest)
    (λ i. ended (range_of c.args.range) _ (c.ends_by.ensures.0 i), λ f. c.if-ends_by.true)

pub returns-else-ends_by : goal.returns-else-ends_by
returns-else-ends_by c =
    subst (λ q. IsTrue (not c.holds_some.result) ↔ ((z : ℤ) → IsInRange z (range_of c.args.range) → z ≤ℤ q)) (to_z-of_z w128 c.args.greatest c.ranges.greatest)
    (not_ended (range_of c.args.range) _ c.holds_some.result (λ h. let e = c.ends_by.ensures.1 h in let n = c.if-ends_by.false in cc) c.holds_some.ensures)
