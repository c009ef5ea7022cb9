-- Headers of two octets.
use Rattle.std.proofs.Common.{arith, ◌≡◌, ℕ, ◌+◌, ◌<◌, Bool, List, [], ◌∷◌, ◌++◌, length, refl, sym, ap, ◌∙◌}
use Rattle.asn_base.specs.declared.tag.Class.{Class}
use Rattle.asn_base.specs.declared.tag.Tag.{Tag}
use Rattle.encodings.specs.Header.{identifier, class_bits, form_bit, short}
use Rattle.octets.specs.proving.Identifiers.{low}
use Rattle.octet_answers.specs.Units.{UnitAt}

-- the one identifier octet of an encoding
pub one_octet : (class : Class) (number bits form octet : ℕ) (c : Bool) → bits ≡ class_bits class → form ≡ form_bit c → number < 31 → octet ≡ (bits + form) + number → identifier class number c ≡ octet ∷ []
one_octet class number bits form octet c b d l e =
    let f : class_bits class + form_bit c + number ≡ octet = omega (arith, b, d, e) in
    low class number c l ∙ ap (λ q. q ∷ []) f

-- an encoding whose header is that octet and a length below 128
pub short_at : (t : Tag) (c : Bool) (first size : ℕ) (inner x r o following : List ℕ)
    → identifier t.class t.number c ≡ first ∷ []
    → o ≡ first ∷ following
    → following ≡ size ∷ inner
    → inner ≡ x ++ r
    → length x ≡ size
    → size < 128
    → UnitAt t c 2 x r o
short_at t c first size inner x r o following i e f g h l = record {
  header = first ∷ size ∷ [];
  is_header = record {
    size = length x ∷ [];
    is_size = short (omega (arith, h, l));
    whole = ap (λ q. first ∷ q ∷ []) (sym h) ∙ ap (λ q. q ++ length x ∷ []) (sym i);
  };
  few = omega (arith, h, l);
  long = refl;
  whole = e ∙ ap (λ q. first ∷ q) f ∙ ap (λ q. first ∷ size ∷ q) g;
}
