-- Numbers in septets at the start of octets, septet by septet.
use Rattle.std.proofs.Common.{arith, ◌≡◌, ℕ, zero, suc, ◌+◌, ◌*◌, ◌/◌, ◌%◌, ◌<◌, ◌≤◌, List, [], ◌∷◌, ◌++◌, length, map}
use Rattle.std.proofs.Common.{refl, sym, ap, subst, ◌∙◌, append_assoc, get_or, ⊎_elim}
use Rattle.std.proofs.lemmas.Bool.{cases_lt}
use Rattle.std.specs.Int.Digits.{digits_of, number_from_digits_after, AllBelowBase}
use Rattle.std.proofs.lemmas.Int.Digits.{digits_of_step, all_below_base_digits_of, number_digits_of, number_push}
use Rattle.std.proofs.lemmas.Int.Digits.{first_digits_of}
use Rattle.encodings.specs.Header.{Octets, septets}
use Rattle.encodings.specs.proving.Fronts.{head_or_0, tail_of}

-- Septets up to the first without the top bit have the number n, if those before them have the number `high`. The rest
-- follows them.
pub data Septets : ℕ → Octets → ℕ → Octets → Type 0 where
  last_septet : {high x n : ℕ} {rest : Octets} → x < 128 → n ≡ high * 128 + x → Septets high (x ∷ rest) n rest
  more_septets : {high x y n : ℕ} {o rest : Octets}
      → x < 128
      → y ≡ 128 + x
      → Septets (high * 128 + x) o n rest
      → Septets high (y ∷ o) n rest

pub at_least : {h n : ℕ} {o rest : List ℕ} → Septets h o n rest → h * 128 ≤ n
at_least (last_septet l e) = omega arith
at_least (more_septets l e s) = let i = at_least s in omega arith

pub once : {h n m : ℕ} {o p r q : List ℕ} → Septets h o n r → Septets h p m q → o ≡ p → (n ≡ m) × (r ≡ q)
once (last_septet {x = x} l e) (last_septet {x = y} k f) g =
    let i : x ≡ y = ap head_or_0 g in (omega arith, ap tail_of g)
once (last_septet l e) (more_septets k f s) g = absurd (let i = ap head_or_0 g in omega arith)
once (more_septets l e s) (last_septet k f) g = absurd (let i = ap head_or_0 g in omega arith)
once {h} {n} {m} {q = q} (more_septets {x = x} {y = y} l e s) (more_septets {x = z} {y = w} {o = p} k f t) g =
    let i : y ≡ w = ap head_or_0 g in
    let j : z ≡ x = omega arith in
    once s (subst (λ a. Septets (h * 128 + a) p m q) j t) (ap tail_of g)

abbrev pub marked : List ℕ → List ℕ
marked = map (λ d. 128 + d)

map_append : (xs ys : List ℕ) → marked (xs ++ ys) ≡ marked xs ++ marked ys
map_append [] ys = refl
map_append (x ∷ xs) ys = ap (λ r. (128 + x) ∷ r) (map_append xs ys)

-- after the digits of a number, septets go on to those of the whole number
spelled : {h n : ℕ} {o rest : List ℕ} → Septets h o n rest
    → ((x : ℕ) (b : List ℕ) → o ≡ (128 + x) ∷ b → 0 < h * 128 + x)
    → marked (digits_of 128 h) ++ o ≡ septets n ++ rest
spelled {h} {n} {rest = rest} (last_septet {x = x} l e) some =
    let high : n / 128 ≡ h = omega arith in
    let low : n % 128 ≡ x = omega arith in
    sym (append_assoc (marked (digits_of 128 h)) (x ∷ []) rest)
    ∙ ap (λ q. (marked (digits_of 128 q) ++ x ∷ []) ++ rest) (sym high)
    ∙ ap (λ q. (marked (digits_of 128 (n / 128)) ++ q ∷ []) ++ rest) (sym low)
spelled {h} {n} {rest = rest} (more_septets {x = x} {y = y} {o = o} l e s) some =
    let above : 0 < h * 128 + x = some x o (ap (λ q. q ∷ o) e) in
    let m = h * 128 + x in
    let high : m / 128 ≡ h = omega arith in
    let low : m % 128 ≡ x = omega arith in
    let step : digits_of 128 m ≡ digits_of 128 h ++ x ∷ [] =
    digits_of_step 128 m (omega arith) above
    ∙ ap (λ q. digits_of 128 q ++ (m % 128) ∷ []) high
    ∙ ap (λ q. digits_of 128 h ++ q ∷ []) low in
    let i : marked (digits_of 128 m) ++ o ≡ septets n ++ rest = spelled s (λ z b f. omega arith) in
    ap (λ q. marked (digits_of 128 h) ++ q ∷ o) e
    ∙ sym (append_assoc (marked (digits_of 128 h)) ((128 + x) ∷ []) o)
    ∙ ap (λ q. q ++ o) (sym (map_append (digits_of 128 h) (x ∷ [])))
    ∙ ap (λ q. marked q ++ o) (sym step) ∙ i

pub number_spelled : (n : ℕ) (o rest : List ℕ) → Septets 0 o n rest → ((b : List ℕ) → o ≡ 128 ∷ b → ⊥)
    → o ≡ septets n ++ rest
number_spelled n o rest s some = spelled s (λ x b e. ⊎_elim
    (λ lt. omega arith)
    (λ le. absurd (some b (e ∙ ap (λ q. q ∷ b) (let z : 128 + x ≡ 128 = omega arith in z))))
    (cases_lt 0 x))

pub digits_read : (ds : List ℕ) (h d : ℕ) (rest : List ℕ) → AllBelowBase 128 ds → d < 128
    → Septets h (marked ds ++ d ∷ rest) (number_from_digits_after 128 h (ds ++ d ∷ [])) rest
digits_read [] h d rest all l = last_septet l refl
digits_read (x ∷ ds) h d rest all l = more_septets all.0 refl (digits_read ds (h * 128 + x) d rest all.1 l)

pub spelling_read : (n : ℕ) (o rest : List ℕ) → o ≡ septets n ++ rest → Septets 0 o n rest
spelling_read n o rest e =
    let ds = digits_of 128 (n / 128) in
    let worth : number_from_digits_after 128 0 (ds ++ (n % 128) ∷ []) ≡ n =
    number_push 128 ds (n % 128)
    ∙ ap (λ q. q * 128 + n % 128) (number_digits_of 128 (n / 128) (omega arith)) ∙ omega arith in
    let below = all_below_base_digits_of 128 (n / 128) (omega arith) in
    subst (λ q. Septets 0 q n rest) (sym (e ∙ append_assoc (marked ds) ((n % 128) ∷ []) rest))
    (subst (λ q. Septets 0 (marked ds ++ (n % 128) ∷ rest) q rest) worth
    (digits_read ds 0 (n % 128) rest below (omega arith)))

first_of : (ds : List ℕ) (d : ℕ) (rest : List ℕ) → (0 < length ds → 0 < get_or ds 0 0) → d < 128
    → head_or_0 ((marked ds ++ d ∷ []) ++ rest) ≡ 128 → ⊥
first_of [] d rest some l e = omega arith
first_of (x ∷ ds) d rest some l e = let p : 0 < x = some (omega arith) in omega arith

some_first : (m : ℕ) → 0 < length (digits_of 128 m) → 0 < get_or (digits_of 128 m) 0 0
some_first zero l = absurd (omega arith)
some_first (suc m) l = first_digits_of 128 (suc m) (omega arith) (omega arith)

-- septets don't begin with zeros
pub never_zero : (n : ℕ) (o rest : List ℕ) → get_or o 0 0 ≡ 128 → o ≡ septets n ++ rest → ⊥
never_zero n [] rest e f = omega arith
never_zero n (x ∷ o) rest e f =
    first_of (digits_of 128 (n / 128)) (n % 128) rest (some_first (n / 128)) (omega arith) (ap head_or_0 (sym f) ∙ e)
