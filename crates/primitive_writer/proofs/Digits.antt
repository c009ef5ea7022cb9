-- Digits in base 256 and 128: one more digit, and room for them.
use Rattle.std.proofs.Common.{◌≡◌, ℕ, suc, ◌+◌, ◌/◌, ◌%◌, ◌<◌, ◌≤◌, ◌^◌, List, [], ◌∷◌, ◌++◌, length, map, refl, sym, ap, ◌∙◌, arith, length-append, get_or, drop, zero}
use Rattle.std.specs.Int.Digits.{digits_of}
use Rattle.std.proofs.lemmas.Int.Digits.{length-digits_of_step, length-digits_of-le}
use Rattle.std.specs.Prelude.{flat_map}
use Rattle.encodings.specs.Header.{septets}
pub use Rattle.encodings.specs.proving.Digits.{step_256, step_128}

map_length : (f : ℕ → ℕ) (xs : List ℕ) → length (map f xs) ≡ length xs
map_length f [] = refl
map_length f (x ∷ xs) = ap suc (map_length f xs)

-- one digit fewer
pub room_256 : (n : ℕ) → 0 < n → length (digits_of 256 n) ≡ length (digits_of 256 (n / 256)) + 1
room_256 n pos = length-digits_of_step 256 n (omega arith) pos

pub room_128 : (n : ℕ) → 0 < n → length (digits_of 128 n) ≡ length (digits_of 128 (n / 128)) + 1
room_128 n pos = length-digits_of_step 128 n (omega arith) pos

pub pushed_length : (xs old ys : List ℕ) → xs ≡ old ++ ys → length xs ≡ length old + length ys
pushed_length xs old ys e = ap length e ∙ length-append old ys

pub length_high : (n : ℕ) → length (map (λ d. 128 + d) (digits_of 128 n)) ≡ length (digits_of 128 n)
length_high n = map_length (λ d. 128 + d) (digits_of 128 n)

pub room_septets : (n : ℕ) → length (septets n) ≡ length (digits_of 128 (n / 128)) + 1
room_septets n = length-append (map (λ d. 128 + d) (digits_of 128 (n / 128))) ((n % 128) ∷ []) ∙ ap (λ k. k + 1) (length_high (n / 128))

pub most_256 : (n : ℕ) → n < 2 ^ 128 → length (digits_of 256 n) ≤ 16
most_256 n h = length-digits_of-le 256 16 n (omega arith) h

pub most_septets : (n : ℕ) → n < 2 ^ 128 → length (septets n) ≤ 19
most_septets n h =
    let below : n / 128 < 128 ^ 18 = omega arith in
    omega (arith, room_septets n, length-digits_of-le 128 18 (n / 128) (omega arith) below)

pub most_arcs : (n : ℕ) → n < 2 ^ 64 → length (septets n) ≤ 10
most_arcs n h =
    let below : n / 128 < 128 ^ 9 = omega arith in
    omega (arith, room_septets n, length-digits_of-le 128 9 (n / 128) (omega arith) below)

-- the septets of a number, and of those after it
pub septets_from : (ns : List ℕ) (i : ℕ) → i < length ns → length (flat_map septets (drop i ns)) ≡ length (septets (get_or ns i 0)) + length (flat_map septets (drop (i + 1) ns))
septets_from [] i h = absurd (omega arith)
septets_from (n ∷ ns) zero h = length-append (septets n) (flat_map septets ns)
septets_from (n ∷ ns) (suc i) h =
    let e : i + 1 ≡ suc i = omega arith in
    let f : suc i + 1 ≡ suc (i + 1) = omega arith in
    septets_from ns i (omega arith) ∙ ap (λ k. length (septets (get_or ns i 0)) + length (flat_map septets (drop k (n ∷ ns)))) (sym f)

-- a number below 128 is one septet
pub one_septet : (n : ℕ) → n < 128 → septets n ≡ n ∷ []
one_septet n h =
    let e : n / 128 ≡ 0 = omega arith in
    let f : n % 128 ≡ n = omega arith in
    ap (λ k. map (λ d. 128 + d) (digits_of 128 k) ++ ((n % 128) ∷ [])) e ∙ ap (λ k. k ∷ []) f
