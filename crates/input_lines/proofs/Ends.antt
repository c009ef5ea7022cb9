-- Where the first line end is.
use Rattle.std.proofs.Common.{◌≡◌, ◌==◌, ℕ, zero, suc, ◌+◌, ◌<◌, Bool, true, false, List, [], ◌∷◌, ◌++◌, length, take, slice_index, refl, ap, ◌∙◌, eqb-true, take-suc, arith}
use Rattle.input_lines.specs.proving.Parts.{HasNoEnd}

-- a test that isn't passed is failed
not_passed : (b : Bool) → (b ≡ true → ⊥) → b ≡ false
not_passed true h = absurd (h refl)
not_passed false h = refl

-- octets of which none is a line end have none
pub no_end_in : (xs : List ℕ) → ((j : ℕ) → j < length xs → (slice_index xs j == 10) ≡ true → ⊥) → HasNoEnd xs
no_end_in [] h = tt
no_end_in (x ∷ xs) h =
    (not_passed (x == 10) (h 0 (omega arith)), no_end_in xs (λ j b. h (suc j) (omega (arith, b))))

-- the octets before the first line end have none
pub no_end_before : (xs : List ℕ) (i : ℕ) → i < length xs
    → ((j : ℕ) → j < i → (slice_index xs j == 10) ≡ true → ⊥)
    → HasNoEnd (take i xs)
no_end_before [] i b h = absurd (omega (arith, b))
no_end_before (x ∷ xs) zero b h = tt
no_end_before (x ∷ xs) (suc i) b h =
    (not_passed (x == 10) (h 0 (omega arith)), no_end_before xs i (omega (arith, b)) (λ j c. h (suc j) (omega (arith, c))))

-- the line end after the octets before it
pub with_end : (xs : List ℕ) (i : ℕ) → i < length xs → (slice_index xs i == 10) ≡ true
    → take (i + 1) xs ≡ take i xs ++ 10 ∷ []
with_end xs i b e =
    ap (λ k. take k xs) (let s : i + 1 ≡ suc i = omega arith in s)
    ∙ take-suc xs i 0 b
    ∙ ap (λ y. take i xs ++ y ∷ []) (eqb-true (slice_index xs i) 10 e)
