use Rattle.std.proofs.Common.{ap, refl, rules, ◌∙◌, sym}
use Rattle.asn_base.specs.Seen.{kind_of}
use Rattle.later_versions.specs.Differences.{other_kind}
use Rattle.later_versions.proofs.Kindred.{IsJudged, by_equal, by_kind, of_restricted_string, one_string_kind, other_codes}
use Rattle.later_versions.proofs.Tracking.{if_ok}
use Rattle.later_versions.proofs.kinds.other_string.Goals as goal

pub returns-else-not-is_same_alphabet : goal.returns-else-not-is_same_alphabet
returns-else-not-is_same_alphabet c = λ s. if_ok c.other_sizes.result c.other_sizes.ensures (λ reason h.
    by_equal (IsJudged s reason) _ _ refl (ap kind_of c.in-RestrictedString.is)
    (of_restricted_string _ _ _ _ _ _ _ _ (c.is_same_kind.ensures.0 c.if-not-is_same_kind.false)
    (c.is_same_alphabet.ensures.0 c.if-not-is_same_alphabet.false ∙ c.as_slice.ensures.value) h))

pub returns-then-not-is_same_kind : goal.returns-then-not-is_same_kind
returns-then-not-is_same_kind c = λ s.
    other_kind (λ h. absurd (
    let e = c.is_same_kind.ensures.1 (one_string_kind (ap kind_of c.in-RestrictedString.is) h) in
    let f = c.if-not-is_same_kind.true in
    cc
    ))

pub returns-then-not-is_same_alphabet : goal.returns-then-not-is_same_alphabet
returns-then-not-is_same_alphabet c = λ s.
    other_codes s (c.is_same_kind.ensures.0 c.if-not-is_same_kind.false) (ap kind_of c.in-RestrictedString.is)
    (λ h. absurd (let e = c.is_same_alphabet.ensures.1 (h ∙ sym c.as_slice.ensures.value) in let f = c.if-not-is_same_alphabet.true in cc))

pub returns-in_default : goal.returns-in_default
returns-in_default c = λ s. by_kind s _ _ (search rules)
