use Rattle.std.proofs.Common.{refl, ap, length, subst}
use Rattle.std.specs.Prelude.{◌↔◌, IsTrue}
use Rattle.std.specs.List.{AllByRecursion}
use Rattle.asn_base.specs.Names.{IsMember}
use Rattle.asn_base.specs.Seen.{constraint_of, kind_of}
use Rattle.asn_base.specs.Typed.{IsAllowedSize}
use Rattle.asn_base.proofs.Leaves.{restricted_fits, utf8_fits}
use Rattle.asn_base.proofs.leaf.fits_text.Goals as goal

pub returns-in-Utf8String : goal.returns-in-Utf8String
returns-in-Utf8String c = utf8_fits (ap kind_of c.in-Utf8String.is) refl c.has_allowed_characters.ensures.utf8 c.has_allowed_characters.ensures.size

pub returns-in-RestrictedString : goal.returns-in-RestrictedString
returns-in-RestrictedString c =
    restricted_fits (ap kind_of c.in-RestrictedString.is) refl
    (subst (λ q. IsTrue c.is_string_of.result ↔ (AllByRecursion (λ x. IsMember x q) c.args.text.now × IsAllowedSize (constraint_of c.in-RestrictedString.size) (length c.args.text.now))) c.as_slice.ensures.value c.is_string_of.ensures)
