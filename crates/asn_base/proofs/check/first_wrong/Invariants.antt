use Rattle.std.proofs.Common.{ℕ, ◌<◌}
use Rattle.asn_base.specs.declared.rule.SchemaRule.TheVariants.{Defaults}
use Rattle.asn_base.specs.Rules.{Keeps}
use Rattle.asn_base.proofs.check.first_wrong.Given as goal

abbrev pub invariant-loop-ty : goal.invariant-loop-ty
invariant-loop-ty l = (t : ℕ) → t < l.ty → Keeps l.types Defaults t
