-- Octets that begin with the header of the fewest octets.
use Rattle.std.proofs.Common.{◌≡◌, ℕ, ◌<◌, ◌^◌, Bool, List, [], ◌∷◌, ◌++◌, refl, sym, ap, ◌∙◌, append_assoc}
use Rattle.asn_base.specs.declared.tag.Tag.{Tag}
use Rattle.encodings.specs.Header.{identifier, HeaderBy}
use Rattle.encodings.specs.Rules.{Distinguished}
use Rattle.encodings.specs.Fewest.{shortest_header, shortest_size}
use Rattle.account_checker.specs.Follows.{BeginsWithHeader}

-- the laws of headers that are called
abbrev Is : Type 0
Is = (t : Tag) (c : Bool) (n : ℕ) → n < 2 ^ 64 → HeaderBy Distinguished t c n (shortest_header t c n)

abbrev pub Only : Type 0
Only = (t : Tag) (c : Bool) (n : ℕ) (h : List ℕ) → HeaderBy Distinguished t c n h → h ≡ shortest_header t c n

whole : (t : Tag) (c : Bool) (n : ℕ) → shortest_header t c n ≡ identifier t.class t.number c ++ shortest_size n
unfolding shortest_header
whole t c n = refl

pub begins : Is → (t : Tag) (c : Bool) (n : ℕ) → n < 2 ^ 64 → (o i r s x : List ℕ) → i ≡ identifier t.class t.number c → s ≡ shortest_size n → o ≡ i ++ r → r ≡ s ++ x → BeginsWithHeader t c n o x
begins is t c n l o i r s x e f g h = record {
  header = shortest_header t c n;
  is_header = is t c n l;
  whole = g ∙ ap (λ q. i ++ q) h ∙ sym (append_assoc i s x) ∙ ap (λ q. q ++ x) (ap (λ q. q ++ s) e ∙ ap (λ q. identifier t.class t.number c ++ q) f ∙ sym (whole t c n));
}

pub split : Only → (t : Tag) (c : Bool) (n : ℕ) (o x : List ℕ) → BeginsWithHeader t c n o x → o ≡ identifier t.class t.number c ++ (shortest_size n ++ x)
split only t c n o x b =
    b.whole ∙ ap (λ q. q ++ x) (only t c n b.header b.is_header ∙ whole t c n) ∙ append_assoc (identifier t.class t.number c) (shortest_size n) x

same_rest : (f x y : List ℕ) → f ++ x ≡ f ++ y → x ≡ y
same_rest [] x y e = e
same_rest (a ∷ f) x y e = same_rest f x y (ap tail_of e)
  where
    tail_of : List ℕ → List ℕ
    tail_of [] = []
    tail_of (x ∷ xs) = xs

pub after_none : Only → (t : Tag) (c : Bool) (n : ℕ) (o i r s x : List ℕ) → i ≡ identifier t.class t.number c → s ≡ shortest_size n → o ≡ i ++ r → BeginsWithHeader t c n o x → r ≡ s ++ x
after_none only t c n o i r s x e f g b =
    same_rest i r (s ++ x) (sym g ∙ split only t c n o x b ∙ ap (λ q. q ++ (shortest_size n ++ x)) (sym e) ∙ ap (λ q. i ++ (q ++ x)) (sym f))
