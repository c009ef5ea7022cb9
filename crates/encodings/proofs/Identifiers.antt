-- No header begins another one, whatever their tags.
use Rattle.std.proofs.Common.{arith, ◌≡◌, ℕ, ◌+◌, ◌*◌, ◌<◌, ◌≤◌, Bool, true, false, List, [], ◌∷◌, ◌++◌, refl, sym, ap, ◌∙◌, append_assoc, cond}
use Rattle.std.proofs.lemmas.Bool.Decides.{nat_tests}
use Rattle.std.specs.Prelude.{nat_lt}
use Rattle.asn_base.specs.declared.tag.Class.{Class}
use Rattle.asn_base.specs.declared.tag.Class.TheVariants.{Universal, Application, Context, Private}
use Rattle.asn_base.specs.declared.tag.Tag.{Tag}
use Rattle.encodings.specs.Header.{class_bits, form_bit, septets, identifier, Header}
use Rattle.encodings.proofs.Fronts.{size_front}
use Rattle.encodings.specs.proving.Fronts.{head_or_0, tail_of}
use Rattle.encodings.specs.proving.Marked.{septets_front}

class_back : (b c : Class) → class_bits b ≡ class_bits c → b ≡ c
class_back Universal Universal e = refl
class_back Universal Application e = absurd (omega arith)
class_back Universal Context e = absurd (omega arith)
class_back Universal Private e = absurd (omega arith)
class_back Application Universal e = absurd (omega arith)
class_back Application Application e = refl
class_back Application Context e = absurd (omega arith)
class_back Application Private e = absurd (omega arith)
class_back Context Universal e = absurd (omega arith)
class_back Context Application e = absurd (omega arith)
class_back Context Context e = refl
class_back Context Private e = absurd (omega arith)
class_back Private Universal e = absurd (omega arith)
class_back Private Application e = absurd (omega arith)
class_back Private Context e = absurd (omega arith)
class_back Private Private e = refl

-- the first octet determines class, form and five bits
record FirstOctet (b c : Class) (f g : Bool) (m n : ℕ) : Type 0 where
  classes : class_bits b ≡ class_bits c
  forms : f ≡ g
  numbers : m ≡ n

bits_below : (c : Class) → (q : ℕ) × (q ≤ 3) × (class_bits c ≡ q * 64)
bits_below Universal = (0, omega arith, omega arith)
bits_below Application = (1, omega arith, omega arith)
bits_below Context = (2, omega arith, omega arith)
bits_below Private = (3, omega arith, omega arith)

first_octet : (b c : Class) (f g : Bool) (m n : ℕ) → m < 32 → n < 32 → class_bits b + form_bit f + m ≡ class_bits c + form_bit g + n → FirstOctet b c f g m n
first_octet b c false false m n h k e = let p = bits_below b in let q = bits_below c in let p' = p.2 in let q' = q.2 in record { classes = omega arith; forms = refl; numbers = omega arith }
first_octet b c false true m n h k e = let p = bits_below b in let q = bits_below c in let p' = p.2 in let q' = q.2 in absurd (omega arith)
first_octet b c true false m n h k e = let p = bits_below b in let q = bits_below c in let p' = p.2 in let q' = q.2 in absurd (omega arith)
first_octet b c true true m n h k e = let p = bits_below b in let q = bits_below c in let p' = p.2 in let q' = q.2 in record { classes = omega arith; forms = refl; numbers = omega arith }

-- two identifiers by cases
data Identified (class : Class) (number : ℕ) (c : Bool) : List ℕ → Type 0 where
  short_one : number < 31 → Identified class number c ((class_bits class + form_bit c + number) ∷ [])
  long_one : 31 ≤ number → Identified class number c ((class_bits class + form_bit c + 31) ∷ septets number)

identified : (class : Class) (number : ℕ) (c : Bool) → Identified class number c (identifier class number c)
unfolding identifier
identified class number c = by (nat_lt number 31) refl
  where
    by : (t : Bool) → nat_lt number 31 ≡ t → Identified class number c (cond t ((class_bits class + form_bit c + number) ∷ []) ((class_bits class + form_bit c + 31) ∷ septets number))
    by true e = short_one (grind (arith, nat_tests))
    by false e = long_one (grind (arith, nat_tests))

-- what two identifiers at one place have in common
pub record SameIdentifier (b c : Class) (m n : ℕ) (f g : Bool) (x y : List ℕ) : Type 0 where
  pub classes : b ≡ c
  pub numbers : m ≡ n
  pub forms : f ≡ g
  pub rest : x ≡ y

front_of : {b c : Class} {m n : ℕ} {f g : Bool} {i j : List ℕ} (x y : List ℕ) → Identified b m f i → Identified c n g j → i ++ x ≡ j ++ y → SameIdentifier b c m n f g x y
front_of {b} {c} {m} {n} {f} {g} x y (short_one h) (short_one k) e =
    let r = first_octet b c f g m n (omega arith) (omega arith) (ap head_or_0 e) in
    record { classes = class_back b c r.classes; numbers = r.numbers; forms = r.forms; rest = ap tail_of e }
front_of {b} {c} {m} {n} {f} {g} x y (short_one h) (long_one k) e =
    let r = first_octet b c f g m 31 (omega arith) (omega arith) (ap head_or_0 e) in
    let l = r.numbers in absurd (omega arith)
front_of {b} {c} {m} {n} {f} {g} x y (long_one h) (short_one k) e =
    let r = first_octet b c f g 31 n (omega arith) (omega arith) (ap head_or_0 e) in
    let l = r.numbers in absurd (omega arith)
front_of {b} {c} {m} {n} {f} {g} x y (long_one h) (long_one k) e =
    let r = first_octet b c f g 31 31 (omega arith) (omega arith) (ap head_or_0 e) in
    let l = septets_front m n x y (ap tail_of e) in
    record { classes = class_back b c r.classes; numbers = l.0; forms = r.forms; rest = l.1 }

pub identifier_front : (b c : Class) (m n : ℕ) (f g : Bool) (x y : List ℕ) → identifier b m f ++ x ≡ identifier c n g ++ y → SameIdentifier b c m n f g x y
identifier_front b c m n f g x y e = front_of x y (identified b m f) (identified c n g) e

-- what two headers at one place have in common
pub record SameHeader (t u : Tag) (b c : Bool) (n m : ℕ) (h g x y : List ℕ) : Type 0 where
  pub classes : t.class ≡ u.class
  pub numbers : t.number ≡ u.number
  pub forms : b ≡ c
  pub counts : n ≡ m
  pub headers : h ≡ g
  pub rest : x ≡ y

pub any_front : (t u : Tag) (b c : Bool) (n m : ℕ) (h g x y : List ℕ) → Header t b n h → Header u c m g → h ++ x ≡ g ++ y → SameHeader t u b c n m h g x y
any_front t u b c n m h g x y a d e =
    let i = identifier t.class t.number b in
    let j = identifier u.class u.number c in
    let f : i ++ (a.size ++ x) ≡ j ++ (d.size ++ y) = sym (append_assoc i a.size x) ∙ ap (λ z. z ++ x) (sym a.whole) ∙ e ∙ ap (λ z. z ++ y) d.whole ∙ append_assoc j d.size y in
    let r = identifier_front t.class u.class t.number u.number b c (a.size ++ x) (d.size ++ y) f in
    let s = size_front x y a.is_size d.is_size r.rest in
    let same : i ≡ j = ap (λ q. identifier q t.number b) r.classes ∙ ap (λ q. identifier u.class q b) r.numbers ∙ ap (λ q. identifier u.class u.number q) r.forms in
    record {
      classes = r.classes;
      numbers = r.numbers;
      forms = r.forms;
      counts = s.0;
      headers = a.whole ∙ ap (λ z. z ++ a.size) same ∙ ap (λ z. j ++ z) s.1 ∙ sym d.whole;
      rest = s.2;
    }
