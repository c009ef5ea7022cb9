-- What a rule of DER asks.
use Rattle.std.proofs.Common.{◌≡◌, inl, inr, ℕ, ◌<◌, ◌≤◌, List, [], ◌∷◌, ◌++◌, codes, sym, subst, Option, Some}
use Rattle.std.specs.Prelude.{IfSome}
use Rattle.asn_base.specs.Abstract.{AbstractValue}
use Rattle.asn_base.specs.Types.{Resolved}
use Rattle.der_check.specs.Broken.{Breaks}
use Rattle.der_check.specs.declared.rule.RuleOfDer.{RuleOfDer}
use Rattle.der_check.specs.declared.rule.RuleOfDer.TheVariants.{FewestLengthOctets}
use Rattle.der_check.specs.declared.rule.Breach.{Breach}
use Rattle.value_text.specs.Print.{hex_digits}
use Rattle.broken_rules.specs.Broken.{IsExpected, IsExplained, IsSize, SaysWhatBreaks}

pub short_size : (n : ℕ) (words : List ℕ) → n < 128 → words ≡ hex_digits (n ∷ []) → IsSize n words
short_size n words l e = inl (l, e)

pub long_size : (n : ℕ) (words more : List ℕ) → 128 ≤ n → words ≡ codes "8" ++ more → IsSize n words
long_size n words more l e = inr (l, (more, e))

pub size_asked : (n : ℕ) (words : List ℕ) → IsSize n words → IsExpected FewestLengthOctets words
size_asked n words s = (n, s)

explains : (s : List Resolved) (t : ℕ) (v : AbstractValue) (o : List ℕ) (offset : ℕ) (words asked : List ℕ)
    (rule : RuleOfDer)
    → Breaks s t v o rule offset
    → ((r : RuleOfDer) (n : ℕ) → Breaks s t v o r n → offset ≤ n)
    → SaysWhatBreaks rule words
    → IsExpected rule asked
    → IsExplained s t v o offset words asked
explains s t v o offset words asked rule b f w e = record {
  violation = record { rule = rule; breaks = b; first = f; said = w };
  expected = e;
}

-- the same of the place and the rule that were found
pub explains_found : (s : List Resolved) (t : ℕ) (v : AbstractValue) (o : List ℕ) (found : Option Breach) (b : Breach)
    (offset : ℕ) (words asked : List ℕ)
    → found ≡ Some b
    → IfSome found (λ b. Breaks s t v o b.rule b.offset)
    → IfSome found (λ b. (r : RuleOfDer) (n : ℕ) → Breaks s t v o r n → b.offset ≤ n)
    → offset ≡ b.offset
    → SaysWhatBreaks b.rule words
    → IsExpected b.rule asked
    → IsExplained s t v o offset words asked
explains_found s t v o found b offset words asked e h f at w x =
    subst (λ n. IsExplained s t v o n words asked) (sym at)
    (explains s t v o b.offset words asked b.rule
    (subst (λ q. IfSome q (λ b. Breaks s t v o b.rule b.offset)) e h)
    (subst (λ q. IfSome q (λ b. (r : RuleOfDer) (n : ℕ) → Breaks s t v o r n → b.offset ≤ n)) e f) w x)
