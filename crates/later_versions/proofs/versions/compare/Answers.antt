use Rattle.std.proofs.Common.{subst, ◌∙◌}
use Rattle.later_versions.specs.Differences.{IsComparison}
use Rattle.later_versions.proofs.Differing.{comparison_later}
use Rattle.later_versions.proofs.Tracking.{if_ok}
use Rattle.later_versions.proofs.versions.compare.Goals as goal

pub returns-clause-compared : goal.returns-clause-compared
returns-clause-compared c = if_ok c.compare_from.result c.compare_from.ensures (λ answer h.
    subst (λ s. IsComparison s c.args.ty.index c.args.second.now c.args.later_ty.index answer)
    (c.in_ok-cache_default_depths.ensures ∙ c.in_ok-measured.ensures) h)

pub returns-clause-later : goal.returns-clause-later
returns-clause-later c = if_ok c.compare_from.result c.compare_from.ensures (λ answer h.
    comparison_later c.args.first.now c.args.ty.index c.args.second.now c.args.later_ty.index answer
    (subst (λ s. IsComparison s c.args.ty.index c.args.second.now c.args.later_ty.index answer)
    (c.in_ok-cache_default_depths.ensures ∙ c.in_ok-measured.ensures) h))
