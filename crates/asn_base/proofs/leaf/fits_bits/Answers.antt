use Rattle.std.proofs.Common.{refl, ap, sym, subst}
use Rattle.std.specs.Prelude.{◌↔◌, IsTrue}
use Rattle.asn_base.specs.Seen.{constraint_of, kind_of}
use Rattle.asn_base.specs.Typed.{IsAllowedSize}
use Rattle.asn_base.proofs.Leaves.{bits_fits, named_fits}
use Rattle.asn_base.proofs.leaf.fits_bits.Goals as goal

pub returns-in-BitString : goal.returns-in-BitString
returns-in-BitString c = λ b e.
    bits_fits (ap kind_of c.in-BitString.is) refl
    (subst (λ n. IsTrue c.is_allowed_size.result ↔ IsAllowedSize (constraint_of c.in-BitString.size) n) (sym e) c.is_allowed_size.ensures)

pub returns-in-NamedBits : goal.returns-in-NamedBits
returns-in-NamedBits c = λ b e. named_fits (ap kind_of c.in-NamedBits.is) refl
