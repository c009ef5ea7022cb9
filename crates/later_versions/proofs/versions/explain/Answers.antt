use Rattle.std.proofs.Common.{subst, sym}
use Rattle.std.specs.Prelude.{◌↔◌, IsTrue}
use Rattle.later_versions.specs.Differences.{IsComparison}
use Rattle.later_versions.specs.Later.{Later}
use Rattle.later_versions.proofs.Differing.{said_later}
use Rattle.later_versions.proofs.Tracking.{if_ok}
use Rattle.later_versions.proofs.versions.explain.Goals as goal

pub returns-clause-later : goal.returns-clause-later
returns-clause-later c = if_ok c.explained.result c.explained.ensures.is (λ answer h.
    subst (λ b. IsTrue b ↔ Later c.args.first.now c.args.ty.index c.args.second.now c.args.later_ty.index)
    (said_later answer c.in_ok-comparison.comparison h) c.in_ok-comparison.ensures.later)

pub returns-clause-compared : goal.returns-clause-compared
returns-clause-compared c = if_ok c.explained.result c.explained.ensures.is (λ answer h.
    subst (IsComparison c.args.first.now c.args.ty.index c.args.second.now c.args.later_ty.index) (sym h)
    c.in_ok-comparison.ensures.compared)
