-- The one header with the fewest octets, and that no header of as much or more is shorter.
use Rattle.std.proofs.Common.{◌≡◌, ℕ, ◌+◌, ◌<◌, ◌≤◌, ◌^◌, Bool, true, false, List, [], ◌∷◌, ◌++◌, length, refl, sym, ap, subst, ◌∙◌, arith, length-append, cond}
use Rattle.std.proofs.lemmas.Bool.Decides.{nat_tests}
use Rattle.std.specs.Prelude.{nat_lt}
use Rattle.std.specs.Int.Digits.{digits_of}
use Rattle.std.proofs.lemmas.Int.Digits.{number_lt, length-digits_of-le, all_below_base_digits_of, number_digits_of, length-digits_of_step}
use Rattle.asn_base.specs.declared.tag.Class.{Class}
use Rattle.asn_base.specs.declared.tag.Tag.{Tag}
use Rattle.encodings.specs.Rules.{Rules, Distinguished}
use Rattle.encodings.specs.Header.{class_bits, form_bit, septets, identifier, LongForm, LengthOf, short, long, HeaderBy}
use Rattle.encodings.specs.Fewest.{shortest_size, shortest_header}
use Rattle.encodings.proofs.Digits.{same_digits}
use Rattle.encodings.specs.proving.Lengths.{identifier_long, size_long}

-- the fewest octets of a length, by cases
pub data Fewest : ℕ → List ℕ → Type 0 where
  one : {n : ℕ} → n < 128 → Fewest n (n ∷ [])
  more : {n : ℕ} → 128 ≤ n → Fewest n ((128 + length (digits_of 256 n)) ∷ digits_of 256 n)

pub fewest_size : (n : ℕ) → Fewest n (shortest_size n)
fewest_size n = by (nat_lt n 128) refl
  where
    by : (t : Bool) → nat_lt n 128 ≡ t → Fewest n (cond t (n ∷ []) ((128 + length (digits_of 256 n)) ∷ digits_of 256 n))
    by true e = one (grind (arith, nat_tests))
    by false e = more (grind (arith, nat_tests))

pub fewest_is : {n : ℕ} {l : List ℕ} → length (digits_of 256 n) ≤ 126 → Fewest n l → LengthOf n l
fewest_is h (one s) = short s
fewest_is {n} h (more s) =
    let step = length-digits_of_step 256 n (omega arith) (omega arith) in
    long (record {
      some = omega (arith, step);
      at_most = h;
      octets = all_below_base_digits_of 256 n (omega arith);
      worth = number_digits_of 256 n (omega arith);
    })

long_least : (n m : ℕ) (ds : List ℕ) → n ≤ m → LongForm m ds → length (digits_of 256 n) ≤ length ds
long_least n m ds le f =
    let below : m < 256 ^ length ds = subst (λ x. x < 256 ^ length ds) f.worth (number_lt 256 ds f.octets) in
    length-digits_of-le 256 (length ds) n (omega arith) (omega arith)

-- a length that has octets has few digits, and so has each below it
pub few_digits : {n m : ℕ} {q : List ℕ} → n ≤ m → LengthOf m q → length (digits_of 256 n) ≤ 126
few_digits {n} le (short h) = omega (arith, length-digits_of-le 256 1 n (omega arith) (omega arith))
few_digits {n} {m} le (long {ds = ds} f) = let most : length ds ≤ 126 = f.at_most in omega (arith, long_least n m ds le f)

below_64 : (n : ℕ) → n < 2 ^ 64 → length (digits_of 256 n) ≤ 126
below_64 n h = omega (arith, length-digits_of-le 256 8 n (omega arith) h)

-- no length octets of as much or more are fewer
pub fewest_least : {n m : ℕ} {l q : List ℕ} → n ≤ m → Fewest n l → LengthOf m q → length l ≤ length q
fewest_least le (one s) (short h) = omega arith
fewest_least le (one s) (long f) = omega arith
fewest_least le (more s) (short h) = absurd (omega arith)
fewest_least {n} {m} le (more s) (long {ds = ds} f) = omega (arith, long_least n m ds le f)

-- length octets that are as few are the same
pub fewest_only : {n : ℕ} {l q : List ℕ} → Fewest n l → LengthOf n q → length q ≤ length l → q ≡ l
fewest_only (one s) (short h) le = refl
fewest_only (one s) (long {ds = ds} f) le = let p : 1 ≤ length ds = f.some in absurd (omega arith)
fewest_only (more s) (short h) le = absurd (omega arith)
fewest_only {n} (more s) (long {ds = ds} f) le =
    let ge = long_least n n ds (omega arith) f in
    let same : ds ≡ digits_of 256 n = same_digits ds (digits_of 256 n) f.octets (all_below_base_digits_of 256 n (omega arith)) (omega (arith, ge)) (f.worth ∙ sym (number_digits_of 256 n (omega arith))) in
    ap (λ x. (128 + length x) ∷ x) same

-- the identifier is as long whether constructed or not
pub identifier_length : (class : Class) (number : ℕ) (b c : Bool) → length (identifier class number b) ≡ length (identifier class number c)
unfolding identifier
identifier_length class number b c = by (nat_lt number 31)
  where
    by : (t : Bool) → length (cond t ((class_bits class + form_bit b + number) ∷ []) ((class_bits class + form_bit b + 31) ∷ septets number)) ≡ length (cond t ((class_bits class + form_bit c + number) ∷ []) ((class_bits class + form_bit c + 31) ∷ septets number))
    by true = refl
    by false = refl

-- a header of the fewest length octets has the fewest octets
pub header_of : (t : Tag) (c : Bool) (n : ℕ) (l : List ℕ) → length (digits_of 256 n) ≤ 126 → Fewest n l → HeaderBy Distinguished t c n (identifier t.class t.number c ++ l)
header_of t c n l h f = record {
  header = record { size = l; is_size = fewest_is h f; whole = refl };
  fewest = λ p hp. let i = identifier t.class t.number c in
      let le = fewest_least (omega arith) f hp.is_size in
      let e : length p ≡ length (i ++ hp.size) = ap length hp.whole in
      omega (arith, le, e, length-append i l, length-append i hp.size);
}

-- no header of as much or more is shorter, constructed or not
pub header_least : (r : Rules) (t : Tag) (b c : Bool) (n m : ℕ) (l h : List ℕ) → n ≤ m → Fewest n l → HeaderBy r t c m h → length (identifier t.class t.number b ++ l) ≤ length h
header_least r t b c n m l h le f hh =
    let i = identifier t.class t.number b in
    let j = identifier t.class t.number c in
    let sizes = fewest_least le f hh.header.is_size in
    let e : length h ≡ length (j ++ hh.header.size) = ap length hh.header.whole in
    omega (arith, sizes, e, length-append i l, length-append j hh.header.size, identifier_length t.class t.number b c)

-- there is one header by the distinguished rules
pub header_only : (t : Tag) (c : Bool) (n : ℕ) (l h : List ℕ) → Fewest n l → HeaderBy Distinguished t c n h → h ≡ identifier t.class t.number c ++ l
header_only t c n l h f hh =
    let i = identifier t.class t.number c in
    let le = hh.fewest (i ++ l) (header_of t c n l (few_digits {n = n} {m = n} (omega arith) hh.header.is_size) f).header in
    let e : length h ≡ length (i ++ hh.header.size) = ap length hh.header.whole in
    hh.header.whole ∙ ap (λ x. i ++ x) (fewest_only f hh.header.is_size (omega (arith, le, e, length-append i l, length-append i hh.header.size)))

pub shortest_is : (t : Tag) (c : Bool) (n : ℕ) → n < 2 ^ 64 → HeaderBy Distinguished t c n (shortest_header t c n)
unfolding shortest_header
shortest_is t c n h = header_of t c n (shortest_size n) (below_64 n h) (fewest_size n)

pub shortest_only : (t : Tag) (c : Bool) (n : ℕ) (h : List ℕ) → HeaderBy Distinguished t c n h → h ≡ shortest_header t c n
unfolding shortest_header
shortest_only t c n h hh = header_only t c n (shortest_size n) h (fewest_size n) hh

pub shortest_least : (r : Rules) (t : Tag) (b c : Bool) (n m : ℕ) (h : List ℕ) → n ≤ m → HeaderBy r t c m h → length (shortest_header t b n) ≤ length h
unfolding shortest_header
shortest_least r t b c n m h le hh = header_least r t b c n m (shortest_size n) h le (fewest_size n) hh

pub shortest_length : (t : Tag) (c : Bool) (n : ℕ) → length (shortest_header t c n) ≡ cond (nat_lt t.number 31) 1 (1 + length (septets t.number)) + cond (nat_lt n 128) 1 (1 + length (digits_of 256 n))
unfolding shortest_header
shortest_length t c n = omega (arith, length-append (identifier t.class t.number c) (shortest_size n), identifier_long t.class t.number c, size_long n)
