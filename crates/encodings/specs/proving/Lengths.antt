-- How many octets the parts of a header have.
use Rattle.std.proofs.Common.{◌≡◌, ℕ, ◌+◌, ◌/◌, ◌%◌, ◌<◌, ◌≤◌, ◌^◌, Bool, true, false, [], ◌∷◌, length, map, refl}
use Rattle.std.proofs.Common.{sym, ap, ◌∙◌, arith, length-append, cond}
use Rattle.std.specs.Prelude.{nat_lt}
use Rattle.std.specs.Int.Digits.{digits_of}
use Rattle.std.proofs.lemmas.Int.Digits.{length-digits_of-le, length-digits_of_step}
use Rattle.std.proofs.lemmas.List.{length-map}
use Rattle.asn_base.specs.declared.tag.Class.{Class}
use Rattle.encodings.specs.Header.{class_bits, form_bit, septets, identifier}
use Rattle.encodings.specs.Fewest.{shortest_size}

pub septets_length : (n : ℕ) → length (septets n) ≡ length (digits_of 128 (n / 128)) + 1
septets_length n =
    length-append (map (λ d. 128 + d) (digits_of 128 (n / 128))) ((n % 128) ∷ [])
    ∙ ap (λ k. k + 1) (length-map (digits_of 128 (n / 128)) (λ d. 128 + d))

pub septets_short : (n : ℕ) → n < 128 → 1 ≡ length (septets n)
septets_short n h =
    let z : n / 128 ≡ 0 = omega arith in
    sym (septets_length n ∙ ap (λ k. length (digits_of 128 k) + 1) z)

pub septets_step : (n r : ℕ) → 128 ≤ n → r ≡ length (septets (n / 128)) → r + 1 ≡ length (septets n)
septets_step n r h e =
    let above : 0 < n / 128 = omega arith in
    let step = length-digits_of_step 128 (n / 128) (omega arith) above in
    omega (arith, e, septets_length n, septets_length (n / 128), step)

pub septets_most : (n : ℕ) → n < 2 ^ 32 → length (septets n) ≤ 5
septets_most n h =
    let below : n / 128 < 128 ^ 4 = omega arith in
    omega (arith, septets_length n, length-digits_of-le 128 4 (n / 128) (omega arith) below)

pub identifier_long : (class : Class) (number : ℕ) (c : Bool)
    → length (identifier class number c) ≡ cond (nat_lt number 31) 1 (1 + length (septets number))
unfolding identifier
identifier_long class number c = by (nat_lt number 31)
  where
    by : (t : Bool)
        → length (cond t ((class_bits class + form_bit c + number) ∷ [])
        ((class_bits class + form_bit c + 31) ∷ septets number)) ≡ cond t 1 (1 + length (septets number))
    by true = refl
    by false = omega arith

pub size_long : (n : ℕ) → length (shortest_size n) ≡ cond (nat_lt n 128) 1 (1 + length (digits_of 256 n))
size_long n = by (nat_lt n 128)
  where
    by : (t : Bool)
        → length (cond t (n ∷ []) ((128 + length (digits_of 256 n)) ∷ digits_of 256 n))
        ≡ cond t 1 (1 + length (digits_of 256 n))
    by true = refl
    by false = omega arith
