-- The shortest octets of a number in two's complement.
use Rattle.std.proofs.Common.{lit<, ◌≡◌, ℕ, suc, ◌+◌, ◌*◌, ◌/◌, ◌%◌, ◌<◌, ◌≤◌, ◌^◌, pos, List, [], ◌∷◌, length, get_or, sym, ap, subst, ◌∙◌, ⊎_elim, arith}
use Rattle.std.proofs.lemmas.Bool.{cases_lt}
use Rattle.std.proofs.Math.Nat.{mul-le-mul_left, pow-suc, pow-le-pow_right}
use Rattle.std.specs.Int.Digits.{digits_of, number_from_digits, number_from_digits_after, AllBelowBase}
use Rattle.std.proofs.lemmas.Int.Digits.{number_after_lt, number_lt, length-digits_of-le, all_below_base_digits_of, number_digits_of}
use Rattle.encodings.specs.Contents.{not_negative, Number}
use Rattle.encodings.specs.proving.TwosComplement.{enough, some_octets}

after_ge : (n : ℕ) (ds : List ℕ) → n * 256 ^ length ds ≤ number_from_digits_after 256 n ds
after_ge n [] = omega arith
after_ge n (d ∷ ds) =
    let ih = after_ge (n * 256 + d) ds in
    let more = mul-le-mul_left (256 ^ length ds) (let h : n * 256 ≤ n * 256 + d = omega arith in h) in
    omega (arith, ih, more, ap (λ k. n * k) (pow-suc 256 (length ds)))

low_from : (n : ℕ) (d : List ℕ) → d ≡ digits_of 256 n → AllBelowBase 256 d → number_from_digits 256 d ≡ n → 0 < length d → get_or d 0 0 < 128 → Number (pos n) d
low_from n [] is all worth some low = absurd (omega arith)
low_from n (x ∷ xs) is all worth some low = record {
  is = not_negative (omega arith) all worth
      (let below = number_after_lt 256 (0 * 256 + x) xs all.1 in
      let more = mul-le-mul_left (256 ^ length xs) (let h : x + 1 ≤ 128 = omega arith in h) in
      omega (arith, worth, below, more, pow-suc 256 (length xs)));
  shortest = λ p h.
      let e = ap length is in
      let least = length-digits_of-le 256 (length p) n (omega arith) (omega (arith, enough n p h)) in
      omega (arith, e, least);
}

high_from : (n : ℕ) (d : List ℕ) → d ≡ digits_of 256 n → AllBelowBase 256 d → number_from_digits 256 d ≡ n → (0 < length d → 128 ≤ get_or d 0 0) → Number (pos n) (0 ∷ d)
high_from n [] is all worth high = record {
  is = not_negative (omega arith) (lit< tt, tt) worth (omega (arith, worth));
  shortest = λ p h. some_octets n p h;
}
high_from n (x ∷ xs) is all worth high = record {
  is = not_negative (omega arith) (lit< tt, all) worth
      (let below = number_lt 256 (x ∷ xs) all in
      omega (arith, worth, below, pow-suc 256 (length (x ∷ xs))));
  shortest = λ p h. ⊎_elim (λ lt. lt) (λ ge. absurd (too_few p (enough n p h) ge)) (cases_lt (suc (length xs)) (length p));
}
  where
    too_few : (p : List ℕ) → 2 * n < 256 ^ length p → length p ≤ suc (length xs) → ⊥
    too_few p lt le =
        let ge = after_ge (0 * 256 + x) xs in
        let more = mul-le-mul_left (256 ^ length xs) (let h : 128 ≤ x = high (omega arith) in h) in
        let mono : 256 ^ length p ≤ 256 ^ suc (length xs) = pow-le-pow_right (omega arith) le in
        omega (arith, worth, ge, more, mono, pow-suc 256 (length xs))

pub low_number : (n : ℕ) (d : List ℕ) → d ≡ digits_of 256 n → 0 < length d → get_or d 0 0 < 128 → Number (pos n) d
low_number n d is = low_from n d is (subst (λ q. AllBelowBase 256 q) (sym is) (all_below_base_digits_of 256 n (omega arith))) (ap (number_from_digits 256) is ∙ number_digits_of 256 n (omega arith))

pub high_number : (n : ℕ) (d : List ℕ) → d ≡ digits_of 256 n → (0 < length d → 128 ≤ get_or d 0 0) → Number (pos n) (0 ∷ d)
high_number n d is = high_from n d is (subst (λ q. AllBelowBase 256 q) (sym is) (all_below_base_digits_of 256 n (omega arith))) (ap (number_from_digits 256) is ∙ number_digits_of 256 n (omega arith))

-- a number below 128 is its one octet
pub one_number : (n : ℕ) → n < 128 → Number (pos n) (n ∷ [])
one_number n low = record {
  is = not_negative (omega arith) (omega arith, tt) (omega arith) (omega arith);
  shortest = λ p h. some_octets n p h;
}

-- octets that are worth no less than all numbers of fewer octets are the shortest
no_fewer : (n k : ℕ) (p : List ℕ) → 256 ^ k ≤ 2 * n → 2 * n < 256 ^ length p → suc k ≤ length p
no_fewer n k p least most = ⊎_elim (λ lt. lt) (λ ge. absurd (many ge)) (cases_lt k (length p))
  where
    many : length p ≤ k → ⊥
    many ge = let m : 256 ^ length p ≤ 256 ^ k = pow-le-pow_right (omega arith) ge in omega (arith, least, most, m)

pub two_number : (n : ℕ) → 128 ≤ n → n < 32768 → Number (pos n) (n / 256 ∷ n % 256 ∷ [])
two_number n least most = record {
  is = not_negative (omega arith) (omega arith, (omega arith, tt)) (omega arith) (omega arith);
  shortest = λ p h. no_fewer n 1 p (omega arith) (enough n p h);
}

pub three_number : (n : ℕ) → 32768 ≤ n → n < 8388608 → Number (pos n) (n / 65536 ∷ n / 256 % 256 ∷ n % 256 ∷ [])
three_number n least most = record {
  is = not_negative (omega arith) (omega arith, (omega arith, (omega arith, tt))) (omega arith) (omega arith);
  shortest = λ p h. no_fewer n 2 p (omega arith) (enough n p h);
}

pub four_number : (n : ℕ) → 8388608 ≤ n → n < 2147483648
    → Number (pos n) (n / 16777216 ∷ n / 65536 % 256 ∷ n / 256 % 256 ∷ n % 256 ∷ [])
four_number n least most = record {
  is = not_negative (omega arith) (omega arith, (omega arith, (omega arith, (omega arith, tt)))) (omega arith) (omega arith);
  shortest = λ p h. no_fewer n 3 p (omega arith) (enough n p h);
}
