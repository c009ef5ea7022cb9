use Rattle.std.proofs.Common.{subst}
use Rattle.std.specs.Prelude.{◌↔◌}
use Rattle.asn_base.specs.Typed.{IsInSome}
use Rattle.later_versions.proofs.Tracking.{if_ok}
use Rattle.later_versions.proofs.constraints.numbers_in.Goals as goal

pub returns : goal.returns
returns c = if_ok c.union_of.result c.union_of.ensures.members (λ all m z.
    subst (λ q. IsInSome z all ↔ IsInSome z q) c.in_ok-ranges.ensures (m z))
