-- The parts of the encoding at the start of octets.
use Rattle.std.proofs.Common.{arith, ◌≡◌, ℕ, ◌+◌, ◌≤◌, Bool, List, [], ◌∷◌, ◌++◌, length, refl, sym, ap, subst, ◌∙◌, length-append, append_assoc, take, drop}
use Rattle.std.proofs.lemmas.List.{take-append-drop}
use Rattle.asn_base.specs.declared.tag.Tag.{Tag}
use Rattle.encodings.specs.Fewest.{shortest_header, shortest_size}
use Rattle.encodings.specs.Header.{identifier}
use Rattle.octets.specs.Fronts.{HeaderAt}
use Rattle.header_listing.specs.Shown.{IsFirst}

abbrev head_or_0 : List ℕ → ℕ
head_or_0 [] = 0
head_or_0 (x ∷ xs) = x

abbrev tail_of : List ℕ → List ℕ
tail_of [] = []
tail_of (x ∷ xs) = xs

-- two lists that are the same in all are the same in their parts, if the first parts are equally long
pub split_front : (a b x y : List ℕ) → length a ≡ length b → a ++ x ≡ b ++ y → (a ≡ b) × (x ≡ y)
split_front [] [] x y l e = (refl, e)
split_front [] (c ∷ b) x y l e = absurd (omega arith)
split_front (c ∷ a) [] x y l e = absurd (omega arith)
split_front (c ∷ a) (d ∷ b) x y l e =
    let r = split_front a b x y (omega arith) (ap tail_of e) in
    let h : c ≡ d = ap head_or_0 e in
    let t : a ≡ b = r.0 in (cc, r.1)

-- the shortest header of no contents has one length octet
pub identifier_counted : (t : Tag) (c : Bool) (n : ℕ)
    → length (shortest_header t c 0) ≡ n
    → n ≡ length (identifier t.class t.number c) + 1
unfolding shortest_header
identifier_counted t c n e = let l = length-append (identifier t.class t.number c) (shortest_size 0) in omega arith

-- the identifier octets are within the header
pub identifier_within : {t : Tag} {c : Bool} {n k : ℕ} {o : List ℕ}
    → HeaderAt t c n k o
    → length (identifier t.class t.number c) ≤ k
identifier_within {t} {c} h =
    let e = ap length h.is_header.whole in
    let l = length-append (identifier t.class t.number c) h.is_header.size in
    let m = h.long in
    omega arith

pub header_within : {t : Tag} {c : Bool} {n k : ℕ} {o : List ℕ} → HeaderAt t c n k o → k ≤ length o
header_within h = let e = ap length h.whole in let l = length-append h.header h.rest in let k = h.long in omega arith

-- the parts of octets, split where the header says, are those of an encoding
pub first_is : {t : Tag} {c : Bool} {n k : ℕ} {o : List ℕ} (i s z b x r : List ℕ)
    → HeaderAt t c n k o
    → o ≡ i ++ s
    → length i ≡ length (identifier t.class t.number c)
    → s ≡ z ++ b
    → length i + length z ≡ k
    → b ≡ x ++ r
    → length x ≡ n
    → IsFirst t c i z x r o
first_is {t} {c} {n} {k} {o} i s z b x r h e l f m g q =
    let all : o ≡ (i ++ z) ++ b = e ∙ ap (λ y. i ++ y) f ∙ sym (append_assoc i z b) in
    let long : length (i ++ z) ≡ length h.header = length-append i z ∙ m ∙ sym h.long in
    let p = split_front (i ++ z) h.header b h.rest long (sym all ∙ h.whole) in
    let head : i ++ z ≡ identifier t.class t.number c ++ h.is_header.size = p.0 ∙ h.is_header.whole in
    let d = split_front i (identifier t.class t.number c) z h.is_header.size l head in
    record {
      identified = d.0;
      sized = subst (λ y. Rattle.encodings.specs.Header.LengthOf (length x) y) (sym d.1) (subst (λ y. Rattle.encodings.specs.Header.LengthOf y h.is_header.size) (sym q) h.is_header.is_size);
      few = subst (λ y. y ≤ 16777216) (sym q) h.few;
      whole = e ∙ ap (λ y. i ++ y) (f ∙ ap (λ y. z ++ y) g);
    }

-- and where there is such an encoding, its header is at the start
pub header_at : {t : Tag} {c : Bool} {i z x r o : List ℕ} → IsFirst t c i z x r o → HeaderAt t c (length x) (length (i ++ z)) o
header_at {i = i} {z = z} {x = x} {r = r} f = record {
  header = i ++ z;
  rest = x ++ r;
  is_header = record { size = z; is_size = f.sized; whole = ap (λ y. y ++ z) f.identified };
  few = f.few;
  long = refl;
  whole = f.whole ∙ sym (append_assoc i z (x ++ r));
  follow = (let l = length-append x r in omega arith);
}

-- a list is its two parts, cut anywhere
pub cut_at : (n : ℕ) (o a b : List ℕ) → a ≡ take n o → b ≡ drop n o → o ≡ a ++ b
cut_at n o a b e f = sym (take-append-drop n o) ∙ ap (λ y. y ++ drop n o) (sym e) ∙ ap (λ y. a ++ y) (sym f)
