use Rattle.std.proofs.Common.{subst, sym}
use Rattle.std.specs.Prelude.{◌↔◌, IfSome}
use Rattle.asn_base.specs.Typed.{IsInSome}
use Rattle.later_versions.proofs.Tracking.{if_ok}
use Rattle.later_versions.proofs.constraints.allowed_numbers.Goals as goal

pub returns-in-Some : goal.returns-in-Some
returns-in-Some c = if_ok c.numbers_in.result c.numbers_in.ensures (λ all m z.
    subst (λ o. IsInSome z all ↔ IfSome o (IsInSome z)) (sym c.in-Some.is) (m z))

pub returns-in-None : goal.returns-in-None
returns-in-None c = if_ok c.numbers_from.result c.numbers_from.ensures (λ all m z.
    subst (λ o. IsInSome z all ↔ IfSome o (IsInSome z)) (sym c.in-None.is) (m z))
