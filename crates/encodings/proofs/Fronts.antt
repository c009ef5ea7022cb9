-- No header begins another of its tag.
use Rattle.std.proofs.Common.{◌≡◌, ℕ, ◌+◌, Bool, List, [], ◌∷◌, ◌++◌, length, sym, ap, ◌∙◌, arith, append_assoc}
use Rattle.std.specs.Int.Digits.{number_from_digits}
use Rattle.asn_base.specs.declared.tag.Tag.{Tag}
use Rattle.encodings.specs.Header.{identifier, LengthOf, short, long, Header}
use Rattle.encodings.proofs.Headers.{identifier_length}
use Rattle.encodings.specs.proving.Fronts.{head_or_0, tail_of, split_front}

pub size_front : {n m : ℕ} {p q : List ℕ} (x y : List ℕ) → LengthOf n p → LengthOf m q → p ++ x ≡ q ++ y → (n ≡ m) × (p ≡ q) × (x ≡ y)
size_front x y (short h) (short k) e = let f = ap head_or_0 e in (f, ap (λ z. z ∷ []) f, ap tail_of e)
size_front x y (short h) (long k) e = let f = ap head_or_0 e in absurd (omega arith)
size_front x y (long h) (short k) e = let f = ap head_or_0 e in absurd (omega arith)
size_front x y (long {ds = ds} h) (long {ds = es} k) e =
    let f = ap head_or_0 e in
    let r = split_front ds es x y (omega arith) (ap tail_of e) in
    (sym h.worth ∙ ap (number_from_digits 256) r.0 ∙ k.worth, ap (λ z. (128 + length z) ∷ z) r.0, r.1)

pub header_front : (t : Tag) (b c : Bool) (n m : ℕ) (h g x y : List ℕ) → Header t b n h → Header t c m g → h ++ x ≡ g ++ y → (n ≡ m) × (h ≡ g) × (x ≡ y)
header_front t b c n m h g x y a d e =
    let i = identifier t.class t.number b in
    let j = identifier t.class t.number c in
    let f : i ++ (a.size ++ x) ≡ j ++ (d.size ++ y) = sym (append_assoc i a.size x) ∙ ap (λ z. z ++ x) (sym a.whole) ∙ e ∙ ap (λ z. z ++ y) d.whole ∙ append_assoc j d.size y in
    let r = split_front i j (a.size ++ x) (d.size ++ y) (identifier_length t.class t.number b c) f in
    let s = size_front x y a.is_size d.is_size r.1 in
    (s.0, a.whole ∙ ap (λ z. z ++ a.size) r.0 ∙ ap (λ z. j ++ z) s.1 ∙ sym d.whole, s.2)
