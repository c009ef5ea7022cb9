-- Places that are sent back.
use Rattle.std.proofs.lemmas.Option.{slice_get_within}
use Rattle.std.proofs.Common.{arith, ◌⊎◌, inl, inr, ⊎_elim, ◌≡◌, ℕ, zero, suc, ◌+◌, ◌<◌, ◌≤◌, List, [], ◌∷◌, length, get_or, refl, sym, ap, ◌∙◌}
use Rattle.std.specs.Prelude.{Option, Some, None, slice_get}
use Rattle.account_checker.specs.Parts.{SendsBack}

pub found : (xs : List ℕ) (i d : ℕ) → i < length xs → slice_get xs i ≡ Some (get_or xs i d)
found [] i d h = absurd (omega arith)
found (x ∷ xs) zero d h = refl
found (x ∷ xs) (suc i) d h = found xs i d (omega arith)

pub not_found : (xs : List ℕ) (i : ℕ) → length xs ≤ i → (j : ℕ) → slice_get xs i ≡ Some j → ⊥
not_found [] i h j e = cc
not_found (x ∷ xs) zero h j e = omega arith
not_found (x ∷ xs) (suc i) h j e = not_found xs i (omega arith) j e

some_or : ℕ → Option ℕ → ℕ
some_or d None = d
some_or d (Some n) = n

pub same_some : {i j : ℕ} → Some i ≡ Some j → i ≡ j
unfolding some_or
same_some {i} e = ap (some_or i) e

-- the first ones are
abbrev pub SendsFirst : List ℕ → List ℕ → ℕ → Type 0
SendsFirst p q n = (i j : ℕ) → i < n → slice_get p i ≡ Some j → slice_get q j ≡ Some i

nat_cases : (i n : ℕ) → i < n + 1 → (i < n) ⊎ (i ≡ n)
nat_cases zero zero l = inr refl
nat_cases zero (suc n) l = inl (omega arith)
nat_cases (suc i) zero l = absurd (omega arith)
nat_cases (suc i) (suc n) l = ⊎_elim (λ h. inl (let k : i < n = h in omega arith)) (λ e. inr (ap suc e)) (nat_cases i n (omega arith))

pub one_more : (p q : List ℕ) (n d : ℕ) → SendsFirst p q n → slice_get p n ≡ Some d → slice_get q d ≡ Some n → SendsFirst p q (n + 1)
one_more p q n d h e f i j l g = by (nat_cases i n l)
  where
    by : (i < n) ⊎ (i ≡ n) → slice_get q j ≡ Some i
    by (inl h') = h i j h' g
    by (inr e') = let k = same_some (sym e ∙ ap (slice_get p) (sym e') ∙ g) in ap (slice_get q) (sym k) ∙ f ∙ ap Some (sym e')

pub all_first : (p q : List ℕ) (n : ℕ) → length p ≤ n → SendsFirst p q n → SendsBack p q
all_first p q n l h i j e = h i j (let w = slice_get_within p i j e in omega arith) e
