-- Octets of a number in two's complement: what they are worth, and the shortest ones.
use Rattle.std.proofs.Common.{arith, ◌≡◌, ℕ, ℤ, suc, ◌+◌, ◌*◌, ◌<◌, ◌≤◌, ◌^◌, pos, negsuc, List, [], ◌∷◌, length}
use Rattle.std.proofs.Common.{get_or, map, refl, sym, ap, subst, ◌∙◌, ⊎_elim}
use Rattle.std.proofs.lemmas.Bool.{cases_lt}
use Rattle.std.proofs.Math.Nat.{pow-suc, pow-le-pow_right}
use Rattle.std.specs.Int.Digits.{number_from_digits, number_from_digits_after, AllBelowBase}
use Rattle.std.proofs.lemmas.Int.Digits.{number_after_ge}
use Rattle.encodings.specs.Contents.{TwosComplement, not_negative, negative, Number}
use Rattle.encodings.specs.proving.TwosComplement.{low_below, low_least, enough, some_octets, complement}
use Rattle.encodings.specs.proving.TwosComplement.{below_complement, turned, turned_twice}
use Rattle.primitive_reader.specs.proving.Numbers.{IsShort, turned_after}

-- ---- one octet more

pub worth_step : (high x : ℕ) (o b : List ℕ) → o ≡ x ∷ b → number_from_digits_after 256 high o < 2 ^ 128
    → number_from_digits_after 256 (high * 256 + x) b < 2 ^ 128
worth_step high x o b e l = subst (λ q. number_from_digits_after 256 high q < 2 ^ 128) e l

pub worth_fits : (high x : ℕ) (o b : List ℕ) → o ≡ x ∷ b → number_from_digits_after 256 high o < 2 ^ 128
    → high * 256 + x < 2 ^ 128
worth_fits high x o b e l =
    let k = worth_step high x o b e l in
    let m = number_after_ge 256 (high * 256 + x) b (omega arith) in
    omega (arith, k, m)

pub worth_small : (high x : ℕ) (o b : List ℕ) → o ≡ x ∷ b → number_from_digits_after 256 high o < 2 ^ 128
    → high * 256 < 2 ^ 128
worth_small high x o b e l = let k = worth_fits high x o b e l in omega (arith, k)

pub worth_none : (high : ℕ) (o : List ℕ) → length o ≡ 0 → high ≡ number_from_digits_after 256 high o
worth_none high [] e = refl
worth_none high (x ∷ o) e = absurd (omega arith)

-- ---- the shortest octets

-- short octets with the first bit 0 are the shortest ones
pub low_number : (o : List ℕ) → AllBelowBase 256 o → IsShort o → get_or o 0 0 < 128
    → Number (pos (number_from_digits 256 o)) o
low_number [] all s l = elim s [ ]
low_number (x ∷ []) all s l = record {
  is = not_negative (omega arith) all refl (low_below x [] l tt);
  shortest = λ p h. some_octets _ p h;
}
low_number (x ∷ y ∷ ys) all s l = record {
  is = not_negative (omega arith) all refl (low_below x (y ∷ ys) l all.1);
  shortest = λ p h. ⊎_elim
      (λ lt. lt)
      (λ ge. absurd (too_few p (enough _ p h) ge))
      (cases_lt (suc (length ys)) (length p));
}
  where
    too_few : (p : List ℕ) → 2 * number_from_digits 256 (x ∷ y ∷ ys) < 256 ^ length p → length p ≤ suc (length ys) → ⊥
    too_few p lt le =
        let least = low_least x y ys s.0 in
        let mono : 256 ^ length p ≤ 256 ^ suc (length ys) = pow-le-pow_right (omega arith) le in
        omega (arith, lt, least, mono)

pub short_turned : (o : List ℕ) → AllBelowBase 256 o → IsShort o → IsShort (map complement o)
short_turned [] all s = s
short_turned (x ∷ []) all s = tt
short_turned (x ∷ y ∷ o) all s =
    let l : x < 256 = all.0 in
    let m : y < 256 = all.1.0 in (
      λ e. (let k : y < 128 = s.1 (omega arith) in omega arith),
      λ e. (let k : 128 ≤ y = s.0 (omega arith) in omega arith),
    )

pub head_turned : (o : List ℕ) → IsShort o → 128 ≤ get_or o 0 0 → get_or (map complement o) 0 0 < 128
head_turned [] s l = elim s [ ]
head_turned (x ∷ o) s l = omega arith

pub high_number : (o : List ℕ) → AllBelowBase 256 o → IsShort o → 128 ≤ get_or o 0 0
    → Number (negsuc (turned_after 0 o)) o
high_number o all s l =
    let n = low_number (map complement o) (below_complement o) (short_turned o all s) (head_turned o s l) in
    subst (λ q. Number (negsuc (turned_after 0 o)) q) (turned_twice o all) (turned _ (map complement o) n)

-- ---- octets are worth one number

half : (x : ℕ) (xs : List ℕ) (n m : ℕ) → 2 * n < 256 ^ length (x ∷ xs) → 2 * m < 256 ^ length (x ∷ xs)
    → n + suc m ≡ 256 ^ length (x ∷ xs) → ⊥
half x xs n m a b e = omega (arith, a, b, e, pow-suc 256 (length xs))

never_half : (o : List ℕ) (n m : ℕ) → 1 ≤ length o → 2 * n < 256 ^ length o → 2 * m < 256 ^ length o
    → n + suc m ≡ 256 ^ length o → ⊥
never_half [] n m l a b e = omega (arith, l)
never_half (x ∷ xs) n m l a b e = half x xs n m a b e

pub one_worth : {z y : ℤ} {o : List ℕ} → TwosComplement z o → TwosComplement y o → z ≡ y
one_worth (not_negative {n = n} l b e h) (not_negative {n = m} l' b' e' h') = ap pos (sym e ∙ e')
one_worth {o = o} (not_negative {n = n} l b e h) (negative {n = m} l' b' e' h') =
    absurd (never_half o n m l h h' (ap (λ q. q + suc m) (sym e) ∙ e'))
one_worth {o = o} (negative {n = m} l b e h) (not_negative {n = n} l' b' e' h') =
    absurd (never_half o n m l h' h (ap (λ q. q + suc m) (sym e') ∙ e))
one_worth (negative {n = n} l b e h) (negative {n = m} l' b' e' h') =
    let f : n ≡ m = omega (arith, e, e') in ap negsuc f
