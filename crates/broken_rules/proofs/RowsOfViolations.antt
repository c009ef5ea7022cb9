-- What a violation says, field by field and in full. A definition that lost a field would fail one of these rows.
use Rattle.std.proofs.Common.{◌≡◌, ℕ, ◌≤◌, List, ◌++◌}
use Rattle.asn_base.specs.Abstract.{AbstractValue}
use Rattle.asn_base.specs.Types.{Resolved}
use Rattle.der_check.specs.Broken.{Breaks}
use Rattle.der_check.specs.declared.rule.RuleOfDer.{RuleOfDer}
use Rattle.broken_rules.specs.Broken.{IsExpected, IsExplained, IsViolation, found_start}

module _ (s : List Resolved) (t : ℕ) (v : AbstractValue) (o : List ℕ) (offset : ℕ) (words : List ℕ)
    (h : IsViolation s t v o offset words) where
  broken_there : Breaks s t v o h.rule offset
  broken_there = h.breaks

  none_before : (r : RuleOfDer) (n : ℕ) → Breaks s t v o r n → offset ≤ n
  none_before = h.first

  said_words : (more : List ℕ) × (words ≡ found_start h.rule ++ more)
  said_words = h.said

module _ (s : List Resolved) (t : ℕ) (v : AbstractValue) (o : List ℕ) (offset : ℕ) (words asked : List ℕ)
    (h : IsExplained s t v o offset words asked) where
  same_violation : IsViolation s t v o offset words
  same_violation = h.violation

  asked_words : IsExpected h.violation.rule asked
  asked_words = h.expected
