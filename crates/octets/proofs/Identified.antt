-- Identifier octets at the front, and why there are none.
use Rattle.std.proofs.Common.{arith, ◌≡◌, ℕ, ◌+◌, ◌<◌, ◌≤◌, Bool, false, List, [], ◌∷◌, ◌++◌, length, refl, sym, ap, ◌∙◌, lit<}
use Rattle.asn_base.specs.declared.tag.Class.{Class}
use Rattle.asn_base.specs.declared.tag.Class.TheVariants.{Universal, Context}
use Rattle.asn_base.specs.declared.tag.Tag.{Tag}
use Rattle.encodings.specs.Header.{identifier, class_bits, form_bit, septets}
use Rattle.octets.specs.declared.header_fault.HeaderFault.{HeaderFault}
use Rattle.octets.specs.declared.header_fault.HeaderFault.TheVariants.{Truncated, Indefinite, BadLength, BadTag}
use Rattle.octets.specs.Fronts.{leading, of_number_0, to_30, zeros_first, from_2_31}
use Rattle.octets.specs.Scans.{IdentifierAt, NoIdentifier, cut_identifier, bad_identifier, NoNumber, unended_number, small, zero_first, endless_number}
use Rattle.octets.specs.proving.Identifiers.{low, high}
use Rattle.octets.proofs.Septets.{completed}

pub identifier_low : (t : Tag) (c : Bool) (x n : ℕ) (o b : List ℕ) → o ≡ x ∷ b → x ≡ class_bits t.class + form_bit c + n → n < 31 → t.number ≡ n → IdentifierAt t c b o
identifier_low t c x n o b e f l g = record { whole = e ∙ ap (λ q. q ∷ b) (f ∙ ap (λ q. class_bits t.class + form_bit c + q) (sym g)) ∙ ap (λ q. q ++ b) (sym (low t.class t.number c (omega arith))) }

pub identifier_high : (t : Tag) (c : Bool) (x : ℕ) (o b rest : List ℕ) → o ≡ x ∷ b → x ≡ leading t.class c → 31 ≤ t.number → b ≡ septets t.number ++ rest → IdentifierAt t c rest o
identifier_high t c x o b rest e f l g = record { whole = e ∙ ap (λ q. q ∷ b) f ∙ ap (λ q. leading t.class c ∷ q) g ∙ ap (λ q. q ++ rest) (sym (high t.class t.number c l)) }

-- ---- none

context : Context ≡ Universal → 0 < 0
context e = absurd (cc)

abbrev context_0 : Tag
context_0 = record { class = Context; number = 0; in_range = lit< tt; not_reserved = λ e. context e }

pub none_there : (o : List ℕ) → length o ≡ 0 → NoIdentifier o Truncated
none_there [] e = cut_identifier context_0 false (identifier Context 0 false) refl (let f = ap length (low Context 0 false (omega arith)) in omega arith)
none_there (x ∷ o) e = absurd (omega arith)

pub number_0 : (k : Class) (c : Bool) (x n : ℕ) (o b : List ℕ) → o ≡ x ∷ b → x ≡ class_bits k + form_bit c + n → n ≡ 0 → k ≡ Universal → NoIdentifier o BadTag
number_0 k c x n o b e f z u = bad_identifier (of_number_0 c b (e ∙ ap (λ q. q ∷ b) (f ∙ ap (λ q. class_bits k + form_bit c + q) z ∙ ap (λ q. class_bits q + form_bit c + 0) u ∙ zeroed)))
  where
    zeroed : class_bits Universal + form_bit c + 0 ≡ class_bits Universal + form_bit c
    zeroed = omega arith

-- a tag of the long form
abbrev long_tag : (k : Class) (n : ℕ) → 31 ≤ n → n < 2147483648 → Tag
long_tag k n a b = record { class = k; number = n; in_range = b; not_reserved = λ e. omega arith }

pub number_none : (k : Class) (c : Bool) (x : ℕ) (o b : List ℕ) (e : HeaderFault) → o ≡ x ∷ b → x ≡ leading k c → NoNumber b e → NoIdentifier o e
number_none k c x o b Truncated f g (unended_number s l never) =
    let d = completed _ b s l never in
    let t = long_tag k d.number d.above d.below in
    cut_identifier t c (d.last ∷ []) (high k d.number c d.above ∙ ap (λ q. leading k c ∷ q) d.whole ∙ ap (λ q. q ++ d.last ∷ []) (sym (f ∙ ap (λ q. q ∷ b) g))) (omega arith)
number_none k c x o b Indefinite f g n = elim n [ ]
number_none k c x o b BadLength f g n = elim n [ ]
number_none k c x o b BadTag f g (small n rest l e) = bad_identifier (to_30 k c n rest l (f ∙ ap (λ q. q ∷ b) g ∙ ap (λ q. leading k c ∷ q) e))
number_none k c x o b BadTag f g (zero_first rest e) = bad_identifier (zeros_first k c rest (f ∙ ap (λ q. q ∷ b) g ∙ ap (λ q. leading k c ∷ q) e))
number_none k c x o b BadTag f g (endless_number {m = m} rest s l) = bad_identifier (from_2_31 k c s.digits rest s.below (let w = s.worth in omega arith) (f ∙ ap (λ q. q ∷ b) g ∙ ap (λ q. leading k c ∷ q) s.whole))
