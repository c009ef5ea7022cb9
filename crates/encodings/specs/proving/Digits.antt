-- Digits in base 256 and 128: one digit more, and how many there are.
use Rattle.std.proofs.Common.{◌≡◌, ℕ, ◌+◌, ◌/◌, ◌%◌, ◌<◌, ◌≤◌, ◌^◌, List, [], ◌∷◌, ◌++◌, length, map, sym, ap, ◌∙◌}
use Rattle.std.proofs.Common.{arith, append_assoc}
use Rattle.std.proofs.lemmas.List.{map-append}
use Rattle.std.specs.Int.Digits.{digits_of}
use Rattle.std.proofs.lemmas.Int.Digits.{digits_of_step, length-digits_of_step, length-digits_of-le}

pub step_256 : (old : List ℕ) (n : ℕ) → 0 < n
    → (old ++ digits_of 256 (n / 256)) ++ ((n % 256) ∷ []) ≡ old ++ digits_of 256 n
step_256 old n pos = append_assoc old _ _ ∙ ap (λ x. old ++ x) (sym (digits_of_step 256 n (omega arith) pos))

pub step_128 : (old : List ℕ) (n : ℕ) → 0 < n
    → (old ++ map (λ d. 128 + d) (digits_of 128 (n / 128))) ++ ((n % 128 + 128) ∷ [])
    ≡ old ++ map (λ d. 128 + d) (digits_of 128 n)
step_128 old n pos =
    let comm : n % 128 + 128 ≡ 128 + n % 128 = omega arith in
    append_assoc old _ _
    ∙ ap (λ x. old ++ (map (λ d. 128 + d) (digits_of 128 (n / 128)) ++ (x ∷ []))) comm
    ∙ ap (λ x. old ++ x) (sym (ap (map (λ d. 128 + d)) (digits_of_step 128 n (omega arith) pos)
    ∙ map-append (λ d. 128 + d) (digits_of 128 (n / 128)) ((n % 128) ∷ [])))

pub count_step : (n r : ℕ) → 0 < n → r ≡ length (digits_of 256 (n / 256)) → r + 1 ≡ length (digits_of 256 n)
count_step n r pos e = omega (arith, length-digits_of_step 256 n (omega arith) pos, e)

pub count_most : (n : ℕ) → n < 2 ^ 64 → length (digits_of 256 n) ≤ 8
count_most n h = length-digits_of-le 256 8 n (omega arith) h
