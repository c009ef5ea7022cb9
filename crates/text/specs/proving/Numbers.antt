-- The digits of a number token, and what they come to from left to right.
use Rattle.std.proofs.Common.{◌≡◌, ℕ, ◌+◌, ◌*◌, ◌-◌, ◌≤◌, ◌<◌, Bool, true, false, not, inl, inr, List, length, take, get_or, refl, arith}
use Rattle.std.specs.Char.{is_ascii_digit, digit_value}
use Rattle.std.specs.Str.Parse.{digits_value}
use Rattle.std.proofs.lemmas.Int.Digits.{digits_value_more}
use Rattle.std.proofs.lemmas.Bool.{cases_lt}
use Rattle.std.proofs.lemmas.Bool.Decides.{nat_tests}
use Rattle.text.specs.Octets.{octet_at, stops_number, IsFirstStop}

pub digit_value_is : (c : ℕ) → is_ascii_digit c ≡ true → (48 ≤ c) × (c < 58) × (digit_value c ≡ c - 48)
digit_value_is c e = (grind (arith, nat_tests), grind (arith, nat_tests), grind (arith, nat_tests))

pub value_more : (xs : List ℕ) (i : ℕ) → i < length xs → is_ascii_digit (get_or xs i 0) ≡ true
    → digits_value 10 (take (i + 1) xs) ≡ 10 * digits_value 10 (take i xs) + (get_or xs i 0 - 48)
value_more xs i lt d =
    let e = digits_value_more 10 xs i lt in
    let v = digit_value_is (get_or xs i 0) d in
    omega (arith, e, v.2)

pub goes_on : (x : List ℕ) (i : ℕ) → stops_number x i ≡ false → is_ascii_digit (octet_at x i) ≡ true
unfolding stops_number
goes_on x i e = not_false (is_ascii_digit (octet_at x i)) e
  where
    not_false : (b : Bool) → not b ≡ false → b ≡ true
    not_false true e = refl
    not_false false e = absurd cc

pub digit_between : (x : List ℕ) (i e k : ℕ)
    → is_ascii_digit (octet_at x i) ≡ true
    → IsFirstStop (stops_number x) (i + 1) e
    → k < e - i
    → is_ascii_digit (octet_at x (i + k)) ≡ true
digit_between x i e k d f lt =
    elim (cases_lt 0 k) [
      | inl pos ↦ goes_on x (i + k) (f.before (i + k) (omega arith) (omega arith))
      | inr le ↦ let z : i + k ≡ i = omega arith in rw z d
    ]
