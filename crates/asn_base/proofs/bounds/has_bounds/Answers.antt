use Rattle.std.proofs.Common.{sym, subst}
use Rattle.std.specs.Prelude.{IfOk, IsTrue, ◌↔◌}
use Rattle.asn_base.specs.Seen.{kind_of}
use Rattle.asn_base.specs.Rules.{HasBounds}
use Rattle.asn_base.proofs.bounds.has_bounds.Goals as goal

pub returns-in-Integer : goal.returns-in-Integer
returns-in-Integer c =
    subst (λ q. IfOk c.are_bounds.result (λ b. IsTrue b ↔ HasBounds (kind_of q))) (sym c.in-Integer.is) c.are_bounds.ensures

pub returns-in-BitString : goal.returns-in-BitString
returns-in-BitString c =
    subst (λ q. IfOk c.are_sizes.result (λ b. IsTrue b ↔ HasBounds (kind_of q))) (sym c.in-BitString.is) c.are_sizes.ensures

pub returns-in-OctetString : goal.returns-in-OctetString
returns-in-OctetString c =
    subst (λ q. IfOk c.are_sizes-in-OctetString.result (λ b. IsTrue b ↔ HasBounds (kind_of q))) (sym c.in-OctetString.is) c.are_sizes-in-OctetString.ensures

pub returns-in-Utf8String : goal.returns-in-Utf8String
returns-in-Utf8String c =
    subst (λ q. IfOk c.are_sizes-in-Utf8String.result (λ b. IsTrue b ↔ HasBounds (kind_of q))) (sym c.in-Utf8String.is) c.are_sizes-in-Utf8String.ensures

pub returns-in-RestrictedString : goal.returns-in-RestrictedString
returns-in-RestrictedString c =
    subst (λ q. IfOk c.are_sizes-in-RestrictedString.result (λ b. IsTrue b ↔ HasBounds (kind_of q))) (sym c.in-RestrictedString.is) c.are_sizes-in-RestrictedString.ensures

pub returns-in-SequenceOf : goal.returns-in-SequenceOf
returns-in-SequenceOf c =
    subst (λ q. IfOk c.are_sizes-in-SequenceOf.result (λ b. IsTrue b ↔ HasBounds (kind_of q))) (sym c.in-SequenceOf.is) c.are_sizes-in-SequenceOf.ensures

pub returns-in-SetOf : goal.returns-in-SetOf
returns-in-SetOf c =
    subst (λ q. IfOk c.are_sizes-in-SetOf.result (λ b. IsTrue b ↔ HasBounds (kind_of q))) (sym c.in-SetOf.is) c.are_sizes-in-SetOf.ensures
