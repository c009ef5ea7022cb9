-- Digits in groups.
use Rattle.std.proofs.Common.{◌≡◌, ℕ, zero, suc, ◌+◌, ◌*◌, ◌^◌, ◌%◌, ◌<◌, ◌≤◌, List, [], ◌∷◌, ◌++◌, length, take, drop, refl, sym, ap, ◌∙◌, arith, get_or}
use Rattle.std.specs.Prelude.{replicate}
use Rattle.std.specs.Int.Digits.{number_from_digits, AllBelowBase}
use Rattle.std.proofs.lemmas.Int.Digits.{number_lt, number_push}
use Rattle.std.proofs.Math.Seq.{take-suc}
use Rattle.std.proofs.Math.Nat.{pow-le-pow_right}
use Rattle.std.proofs.lemmas.List.{length-take-le}

below_take : (b n : ℕ) (ds : List ℕ) → AllBelowBase b ds → AllBelowBase b (take n ds)
below_take b zero ds h = tt
below_take b (suc n) [] h = tt
below_take b (suc n) (d ∷ ds) h = (h.0, below_take b n ds h.1)

below_drop : (b n : ℕ) (ds : List ℕ) → AllBelowBase b ds → AllBelowBase b (drop n ds)
below_drop b zero ds h = h
below_drop b (suc n) [] h = tt
below_drop b (suc n) (d ∷ ds) h = below_drop b n ds h.1

below_append : (b : ℕ) (ds es : List ℕ) → AllBelowBase b ds → AllBelowBase b es → AllBelowBase b (ds ++ es)
below_append b [] es h k = k
below_append b (d ∷ ds) es h k = (h.0, below_append b ds es h.1 k)

below_zeros : (b n : ℕ) → 0 < b → AllBelowBase b (replicate n 0)
below_zeros b zero l = tt
below_zeros b (suc n) l = (l, below_zeros b n l)

pub below_group : (b n k z : ℕ) (ds all : List ℕ) → 0 < b → AllBelowBase b ds → all ≡ ds ++ replicate z 0 → AllBelowBase b (take n (drop k all))
below_group b n k z ds all l h e = below_take b n (drop k all) (below_drop b k all (rw e (below_append b ds (replicate z 0) h (below_zeros b z l))))

wraps : (p d x : ℕ) → x ≡ p + d → x < 256 → (p % 256 + d) % 256 ≡ x
wraps p d x e l = omega (arith, e, l)

pub next_digit : (b n k : ℕ) (ds : List ℕ) → 0 < b → AllBelowBase b ds → b ^ length ds ≡ 256 → k < length ds → n ≡ number_from_digits b (take k ds)
    → (n * b % 256 + get_or ds k 0) % 256 ≡ number_from_digits b (take (k + 1) ds)
next_digit b n k ds z h f l e =
    let d = get_or ds k 0 in
    let s : k + 1 ≡ suc k = omega arith in
    let t : take (k + 1) ds ≡ take k ds ++ d ∷ [] = ap (λ j. take j ds) s ∙ take-suc ds k 0 l in
    let x = number_from_digits b (take (k + 1) ds) in
    let p : x ≡ n * b + d = ap (number_from_digits b) t ∙ number_push b (take k ds) d ∙ ap (λ y. y * b + d) (sym e) in
    let m : length (take (k + 1) ds) ≡ k + 1 = length-take-le (k + 1) ds (omega (arith, l)) in
    let q = number_lt b (take (k + 1) ds) (below_take b (k + 1) ds h) in
    let r : b ^ length (take (k + 1) ds) ≤ b ^ length ds = pow-le-pow_right z (omega (arith, m, l)) in
    wraps (n * b) d x p (omega (arith, q, r, f))

zeros_long : (n : ℕ) → length {A = ℕ} (replicate n 0) ≡ n
zeros_long zero = refl
zeros_long (suc n) = ap suc (zeros_long n)

pub padded_long : (ds all : List ℕ) (z : ℕ) → all ≡ ds ++ replicate z 0 → length all ≡ length ds + z
padded_long ds all z e = ap length e ∙ both ds
  where
    both : (es : List ℕ) → length (es ++ replicate z 0) ≡ length es + z
    both [] = let s = zeros_long z in omega (arith, s)
    both (x ∷ es) = let r = both es in omega (arith, r)
