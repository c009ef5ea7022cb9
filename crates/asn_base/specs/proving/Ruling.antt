-- Which type first breaks a rule.
use Rattle.std.specs.Prelude.{ℕ, List, Option, MatchOption}
use Rattle.asn_base.specs.declared.rule.SchemaRule.{SchemaRule}
use Rattle.asn_base.specs.declared.rule.SchemaRule.TheVariants as rules
use Rattle.asn_base.specs.Types.{Resolved}
use Rattle.asn_base.specs.Rules.{Keeps, IsFirstToBreak}

-- whether the rule is decided for one type at a time
abbrev pub IsByType : SchemaRule → Type 0
IsByType rules.Defaults = ⊥
IsByType rules.NoCircle = ⊥
IsByType r = Unit {0}

-- all types keep the rule, or this is the first that breaks it
abbrev pub FirstBreak : List Resolved → SchemaRule → Option ℕ → Type 0
FirstBreak s rule o = MatchOption o ((t : ℕ) → Keeps s rule t) (IsFirstToBreak s rule)
