-- A bit of octets that is set.
use Rattle.std.proofs.Common.{◌≡◌, ℕ, zero, suc, ◌<◌, ◌≤◌, ◌+◌, ◌-◌, ◌*◌, ◌/◌, ◌%◌, ◌^◌, ◌==◌, Bool, true, false, List, [], ◌∷◌, ◌++◌, length, take, Some, refl, sym, ap, ◌∙◌, subst, arith}
use Rattle.std.specs.Prelude.{slice_get, slice_index_or, replicate, flat_map, set}
use Rattle.std.specs.List.{AllByRecursion}
use Rattle.std.proofs.lemmas.Option.{same_Some}
use Rattle.asn_base.specs.Abstract.{bits_of_octet}
use Rattle.value_builders.specs.Made.{IsAmong, AreSetBits}
use Rattle.value_builders.proofs.SetBits.{AreSet, set_all, taken_whole}

-- ---- an octet

pub value_some : (p : ℕ) → p < 8 → 0 < 128 / 2 ^ p
value_some zero l = omega arith
value_some (suc zero) l = omega arith
value_some (suc (suc zero)) l = omega arith
value_some (suc (suc (suc zero))) l = omega arith
value_some (suc (suc (suc (suc zero)))) l = omega arith
value_some (suc (suc (suc (suc (suc zero))))) l = omega arith
value_some (suc (suc (suc (suc (suc (suc zero)))))) l = omega arith
value_some (suc (suc (suc (suc (suc (suc (suc zero))))))) l = omega arith
value_some (suc (suc (suc (suc (suc (suc (suc (suc m)))))))) l = absurd (omega (arith, l))

-- a bit that is not 1 is 0
off : (n : ℕ) → (n % 2 ≡ 1 → ⊥) → n % 2 ≡ 0
off n e = omega (arith, e)

pub has_room : (x p : ℕ) → p < 8 → x < 256 → (x / (128 / 2 ^ p) % 2 ≡ 1 → ⊥) → x + 128 / 2 ^ p < 256
has_room x zero l b e = let d = off (x / 128) e in omega (arith, b, d)
has_room x (suc zero) l b e = let d = off (x / 64) e in omega (arith, b, d)
has_room x (suc (suc zero)) l b e = let d = off (x / 32) e in omega (arith, b, d)
has_room x (suc (suc (suc zero))) l b e = let d = off (x / 16) e in omega (arith, b, d)
has_room x (suc (suc (suc (suc zero)))) l b e = let d = off (x / 8) e in omega (arith, b, d)
has_room x (suc (suc (suc (suc (suc zero))))) l b e = let d = off (x / 4) e in omega (arith, b, d)
has_room x (suc (suc (suc (suc (suc (suc zero)))))) l b e = let d = off (x / 2) e in omega (arith, b, d)
has_room x (suc (suc (suc (suc (suc (suc (suc zero))))))) l b e = let d = off (x / 1) e in omega (arith, b, d)
has_room x (suc (suc (suc (suc (suc (suc (suc (suc m)))))))) l b e = absurd (omega (arith, l))

pub set_already : (x p : ℕ) → p < 8 → x < 256 → x / (128 / 2 ^ p) % 2 ≡ 1 → bits_of_octet x ≡ set (bits_of_octet x) p true
set_already x zero l b e =
    let h = ap (λ n. n == 1) (let q : x / 128 ≡ 1 = omega (arith, b, e) in q) in
    (λ k. h k ∷ (x / 64 % 2 == 1) ∷ (x / 32 % 2 == 1) ∷ (x / 16 % 2 == 1) ∷ (x / 8 % 2 == 1) ∷ (x / 4 % 2 == 1) ∷ (x / 2 % 2 == 1) ∷ (x % 2 == 1) ∷ [])
set_already x (suc zero) l b e =
    let h = ap (λ n. n == 1) e in
    (λ k. (x / 128 == 1) ∷ h k ∷ (x / 32 % 2 == 1) ∷ (x / 16 % 2 == 1) ∷ (x / 8 % 2 == 1) ∷ (x / 4 % 2 == 1) ∷ (x / 2 % 2 == 1) ∷ (x % 2 == 1) ∷ [])
set_already x (suc (suc zero)) l b e =
    let h = ap (λ n. n == 1) e in
    (λ k. (x / 128 == 1) ∷ (x / 64 % 2 == 1) ∷ h k ∷ (x / 16 % 2 == 1) ∷ (x / 8 % 2 == 1) ∷ (x / 4 % 2 == 1) ∷ (x / 2 % 2 == 1) ∷ (x % 2 == 1) ∷ [])
set_already x (suc (suc (suc zero))) l b e =
    let h = ap (λ n. n == 1) e in
    (λ k. (x / 128 == 1) ∷ (x / 64 % 2 == 1) ∷ (x / 32 % 2 == 1) ∷ h k ∷ (x / 8 % 2 == 1) ∷ (x / 4 % 2 == 1) ∷ (x / 2 % 2 == 1) ∷ (x % 2 == 1) ∷ [])
set_already x (suc (suc (suc (suc zero)))) l b e =
    let h = ap (λ n. n == 1) e in
    (λ k. (x / 128 == 1) ∷ (x / 64 % 2 == 1) ∷ (x / 32 % 2 == 1) ∷ (x / 16 % 2 == 1) ∷ h k ∷ (x / 4 % 2 == 1) ∷ (x / 2 % 2 == 1) ∷ (x % 2 == 1) ∷ [])
set_already x (suc (suc (suc (suc (suc zero))))) l b e =
    let h = ap (λ n. n == 1) e in
    (λ k. (x / 128 == 1) ∷ (x / 64 % 2 == 1) ∷ (x / 32 % 2 == 1) ∷ (x / 16 % 2 == 1) ∷ (x / 8 % 2 == 1) ∷ h k ∷ (x / 2 % 2 == 1) ∷ (x % 2 == 1) ∷ [])
set_already x (suc (suc (suc (suc (suc (suc zero)))))) l b e =
    let h = ap (λ n. n == 1) e in
    (λ k. (x / 128 == 1) ∷ (x / 64 % 2 == 1) ∷ (x / 32 % 2 == 1) ∷ (x / 16 % 2 == 1) ∷ (x / 8 % 2 == 1) ∷ (x / 4 % 2 == 1) ∷ h k ∷ (x % 2 == 1) ∷ [])
set_already x (suc (suc (suc (suc (suc (suc (suc zero))))))) l b e =
    let h = ap (λ n. n == 1) (let q : x % 2 ≡ 1 = omega (arith, e) in q) in
    (λ k. (x / 128 == 1) ∷ (x / 64 % 2 == 1) ∷ (x / 32 % 2 == 1) ∷ (x / 16 % 2 == 1) ∷ (x / 8 % 2 == 1) ∷ (x / 4 % 2 == 1) ∷ (x / 2 % 2 == 1) ∷ h k ∷ [])
set_already x (suc (suc (suc (suc (suc (suc (suc (suc m)))))))) l b e = absurd (omega (arith, l))

pub set_now : (x p : ℕ) → p < 8 → x < 256 → (x / (128 / 2 ^ p) % 2 ≡ 1 → ⊥) → bits_of_octet (x + 128 / 2 ^ p) ≡ set (bits_of_octet x) p true
set_now x zero l b e =
    let d = off (x / 128) e in
    let h0 : (x + 128) / 128 ≡ 1 = omega (arith, b, d) in
    let h1 : (x + 128) / 64 % 2 ≡ x / 64 % 2 = omega (arith, b, d) in
    let h2 : (x + 128) / 32 % 2 ≡ x / 32 % 2 = omega (arith, b, d) in
    let h3 : (x + 128) / 16 % 2 ≡ x / 16 % 2 = omega (arith, b, d) in
    let h4 : (x + 128) / 8 % 2 ≡ x / 8 % 2 = omega (arith, b, d) in
    let h5 : (x + 128) / 4 % 2 ≡ x / 4 % 2 = omega (arith, b, d) in
    let h6 : (x + 128) / 2 % 2 ≡ x / 2 % 2 = omega (arith, b, d) in
    let h7 : (x + 128) % 2 ≡ x % 2 = omega (arith, b, d) in
    (λ k. (h0 k == 1) ∷ (h1 k == 1) ∷ (h2 k == 1) ∷ (h3 k == 1) ∷ (h4 k == 1) ∷ (h5 k == 1) ∷ (h6 k == 1) ∷ (h7 k == 1) ∷ [])
set_now x (suc zero) l b e =
    let d = off (x / 64) e in
    let h0 : (x + 64) / 128 ≡ x / 128 = omega (arith, b, d) in
    let h1 : (x + 64) / 64 % 2 ≡ 1 = omega (arith, b, d) in
    let h2 : (x + 64) / 32 % 2 ≡ x / 32 % 2 = omega (arith, b, d) in
    let h3 : (x + 64) / 16 % 2 ≡ x / 16 % 2 = omega (arith, b, d) in
    let h4 : (x + 64) / 8 % 2 ≡ x / 8 % 2 = omega (arith, b, d) in
    let h5 : (x + 64) / 4 % 2 ≡ x / 4 % 2 = omega (arith, b, d) in
    let h6 : (x + 64) / 2 % 2 ≡ x / 2 % 2 = omega (arith, b, d) in
    let h7 : (x + 64) % 2 ≡ x % 2 = omega (arith, b, d) in
    (λ k. (h0 k == 1) ∷ (h1 k == 1) ∷ (h2 k == 1) ∷ (h3 k == 1) ∷ (h4 k == 1) ∷ (h5 k == 1) ∷ (h6 k == 1) ∷ (h7 k == 1) ∷ [])
set_now x (suc (suc zero)) l b e =
    let d = off (x / 32) e in
    let h0 : (x + 32) / 128 ≡ x / 128 = omega (arith, b, d) in
    let h1 : (x + 32) / 64 % 2 ≡ x / 64 % 2 = omega (arith, b, d) in
    let h2 : (x + 32) / 32 % 2 ≡ 1 = omega (arith, b, d) in
    let h3 : (x + 32) / 16 % 2 ≡ x / 16 % 2 = omega (arith, b, d) in
    let h4 : (x + 32) / 8 % 2 ≡ x / 8 % 2 = omega (arith, b, d) in
    let h5 : (x + 32) / 4 % 2 ≡ x / 4 % 2 = omega (arith, b, d) in
    let h6 : (x + 32) / 2 % 2 ≡ x / 2 % 2 = omega (arith, b, d) in
    let h7 : (x + 32) % 2 ≡ x % 2 = omega (arith, b, d) in
    (λ k. (h0 k == 1) ∷ (h1 k == 1) ∷ (h2 k == 1) ∷ (h3 k == 1) ∷ (h4 k == 1) ∷ (h5 k == 1) ∷ (h6 k == 1) ∷ (h7 k == 1) ∷ [])
set_now x (suc (suc (suc zero))) l b e =
    let d = off (x / 16) e in
    let h0 : (x + 16) / 128 ≡ x / 128 = omega (arith, b, d) in
    let h1 : (x + 16) / 64 % 2 ≡ x / 64 % 2 = omega (arith, b, d) in
    let h2 : (x + 16) / 32 % 2 ≡ x / 32 % 2 = omega (arith, b, d) in
    let h3 : (x + 16) / 16 % 2 ≡ 1 = omega (arith, b, d) in
    let h4 : (x + 16) / 8 % 2 ≡ x / 8 % 2 = omega (arith, b, d) in
    let h5 : (x + 16) / 4 % 2 ≡ x / 4 % 2 = omega (arith, b, d) in
    let h6 : (x + 16) / 2 % 2 ≡ x / 2 % 2 = omega (arith, b, d) in
    let h7 : (x + 16) % 2 ≡ x % 2 = omega (arith, b, d) in
    (λ k. (h0 k == 1) ∷ (h1 k == 1) ∷ (h2 k == 1) ∷ (h3 k == 1) ∷ (h4 k == 1) ∷ (h5 k == 1) ∷ (h6 k == 1) ∷ (h7 k == 1) ∷ [])
set_now x (suc (suc (suc (suc zero)))) l b e =
    let d = off (x / 8) e in
    let h0 : (x + 8) / 128 ≡ x / 128 = omega (arith, b, d) in
    let h1 : (x + 8) / 64 % 2 ≡ x / 64 % 2 = omega (arith, b, d) in
    let h2 : (x + 8) / 32 % 2 ≡ x / 32 % 2 = omega (arith, b, d) in
    let h3 : (x + 8) / 16 % 2 ≡ x / 16 % 2 = omega (arith, b, d) in
    let h4 : (x + 8) / 8 % 2 ≡ 1 = omega (arith, b, d) in
    let h5 : (x + 8) / 4 % 2 ≡ x / 4 % 2 = omega (arith, b, d) in
    let h6 : (x + 8) / 2 % 2 ≡ x / 2 % 2 = omega (arith, b, d) in
    let h7 : (x + 8) % 2 ≡ x % 2 = omega (arith, b, d) in
    (λ k. (h0 k == 1) ∷ (h1 k == 1) ∷ (h2 k == 1) ∷ (h3 k == 1) ∷ (h4 k == 1) ∷ (h5 k == 1) ∷ (h6 k == 1) ∷ (h7 k == 1) ∷ [])
set_now x (suc (suc (suc (suc (suc zero))))) l b e =
    let d = off (x / 4) e in
    let h0 : (x + 4) / 128 ≡ x / 128 = omega (arith, b, d) in
    let h1 : (x + 4) / 64 % 2 ≡ x / 64 % 2 = omega (arith, b, d) in
    let h2 : (x + 4) / 32 % 2 ≡ x / 32 % 2 = omega (arith, b, d) in
    let h3 : (x + 4) / 16 % 2 ≡ x / 16 % 2 = omega (arith, b, d) in
    let h4 : (x + 4) / 8 % 2 ≡ x / 8 % 2 = omega (arith, b, d) in
    let h5 : (x + 4) / 4 % 2 ≡ 1 = omega (arith, b, d) in
    let h6 : (x + 4) / 2 % 2 ≡ x / 2 % 2 = omega (arith, b, d) in
    let h7 : (x + 4) % 2 ≡ x % 2 = omega (arith, b, d) in
    (λ k. (h0 k == 1) ∷ (h1 k == 1) ∷ (h2 k == 1) ∷ (h3 k == 1) ∷ (h4 k == 1) ∷ (h5 k == 1) ∷ (h6 k == 1) ∷ (h7 k == 1) ∷ [])
set_now x (suc (suc (suc (suc (suc (suc zero)))))) l b e =
    let d = off (x / 2) e in
    let h0 : (x + 2) / 128 ≡ x / 128 = omega (arith, b, d) in
    let h1 : (x + 2) / 64 % 2 ≡ x / 64 % 2 = omega (arith, b, d) in
    let h2 : (x + 2) / 32 % 2 ≡ x / 32 % 2 = omega (arith, b, d) in
    let h3 : (x + 2) / 16 % 2 ≡ x / 16 % 2 = omega (arith, b, d) in
    let h4 : (x + 2) / 8 % 2 ≡ x / 8 % 2 = omega (arith, b, d) in
    let h5 : (x + 2) / 4 % 2 ≡ x / 4 % 2 = omega (arith, b, d) in
    let h6 : (x + 2) / 2 % 2 ≡ 1 = omega (arith, b, d) in
    let h7 : (x + 2) % 2 ≡ x % 2 = omega (arith, b, d) in
    (λ k. (h0 k == 1) ∷ (h1 k == 1) ∷ (h2 k == 1) ∷ (h3 k == 1) ∷ (h4 k == 1) ∷ (h5 k == 1) ∷ (h6 k == 1) ∷ (h7 k == 1) ∷ [])
set_now x (suc (suc (suc (suc (suc (suc (suc zero))))))) l b e =
    let d = off (x / 1) e in
    let h0 : (x + 1) / 128 ≡ x / 128 = omega (arith, b, d) in
    let h1 : (x + 1) / 64 % 2 ≡ x / 64 % 2 = omega (arith, b, d) in
    let h2 : (x + 1) / 32 % 2 ≡ x / 32 % 2 = omega (arith, b, d) in
    let h3 : (x + 1) / 16 % 2 ≡ x / 16 % 2 = omega (arith, b, d) in
    let h4 : (x + 1) / 8 % 2 ≡ x / 8 % 2 = omega (arith, b, d) in
    let h5 : (x + 1) / 4 % 2 ≡ x / 4 % 2 = omega (arith, b, d) in
    let h6 : (x + 1) / 2 % 2 ≡ x / 2 % 2 = omega (arith, b, d) in
    let h7 : (x + 1) % 2 ≡ 1 = omega (arith, b, d) in
    (λ k. (h0 k == 1) ∷ (h1 k == 1) ∷ (h2 k == 1) ∷ (h3 k == 1) ∷ (h4 k == 1) ∷ (h5 k == 1) ∷ (h6 k == 1) ∷ (h7 k == 1) ∷ [])
set_now x (suc (suc (suc (suc (suc (suc (suc (suc m)))))))) l b e = absurd (omega (arith, l))

-- ---- octets

set_front : (a b : List Bool) (i : ℕ) (v : Bool) → i < length a → set (a ++ b) i v ≡ set a i v ++ b
set_front [] b i v l = absurd (omega (arith, l))
set_front (x ∷ a) b zero v l = refl
set_front (x ∷ a) b (suc i) v l = ap (λ z. x ∷ z) (set_front a b i v (omega (arith, l)))

set_back : (x : ℕ) (s : List Bool) (n m : ℕ) → n ≡ suc (suc (suc (suc (suc (suc (suc (suc m))))))) → set (bits_of_octet x ++ s) n true ≡ bits_of_octet x ++ set s m true
set_back x s n m e = ap (λ i. set (bits_of_octet x ++ s) i true) e

pub set_at : (os : List ℕ) (j r x y : ℕ)
    → j < length os
    → r < 8
    → x ≡ slice_index_or os j x
    → bits_of_octet y ≡ set (bits_of_octet x) r true
    → flat_map bits_of_octet (set os j y) ≡ set (flat_map bits_of_octet os) (8 * j + r) true
set_at [] j r x y l h s e = absurd (omega (arith, l))
set_at (o ∷ os) zero r x y l h s e =
    ap (λ z. z ++ flat_map bits_of_octet os) (e ∙ ap (λ z. set (bits_of_octet z) r true) s)
    ∙ sym (set_front (bits_of_octet o) (flat_map bits_of_octet os) r true h)
    ∙ ap (λ i. set (bits_of_octet o ++ flat_map bits_of_octet os) i true) (let q : r ≡ 8 * 0 + r = omega arith in q)
set_at (o ∷ os) (suc j) r x y l h s e =
    ap (λ z. bits_of_octet o ++ z) (set_at os j r x y (omega (arith, l)) h s e)
    ∙ sym (set_back o (flat_map bits_of_octet os) (8 * suc j + r) (8 * j + r) (omega arith))

pub all_clear : (n : ℕ) → flat_map bits_of_octet (replicate n 0) ≡ replicate (8 * n) false
all_clear zero = refl
all_clear (suc n) =
    let q : 8 * suc n ≡ suc (suc (suc (suc (suc (suc (suc (suc (8 * n)))))))) = omega arith in
    ap (λ z. bits_of_octet 0 ++ z) (all_clear n) ∙ ap (λ m. replicate m false) (sym q)

-- ---- the bits in front

in_front : (s : List Bool) (n i : ℕ) → slice_get (take n s) i ≡ Some true → slice_get s i ≡ Some true
in_front [] zero i e = e
in_front [] (suc n) i e = e
in_front (x ∷ s) zero i e = absurd cc
in_front (x ∷ s) (suc n) zero e = e
in_front (x ∷ s) (suc n) (suc i) e = in_front s n i e

to_front : (s : List Bool) (n i : ℕ) → i < n → slice_get s i ≡ Some true → slice_get (take n s) i ≡ Some true
to_front s zero i l e = absurd (omega (arith, l))
to_front [] (suc n) i l e = e
to_front (x ∷ s) (suc n) zero l e = e
to_front (x ∷ s) (suc n) (suc i) l e = to_front s n i (omega (arith, l)) e

long_front : (s : List Bool) (n : ℕ) → n ≤ length s → length (take n s) ≡ n
long_front s zero l = refl
long_front [] (suc n) l = absurd (omega (arith, l))
long_front (x ∷ s) (suc n) l = ap suc (long_front s n (omega (arith, l)))

below : (ps : List ℕ) (n k x : ℕ) → AllByRecursion (λ p. p < n) ps → slice_get ps k ≡ Some x → x < n
below [] n k x a e = absurd cc
below (p ∷ ps) n zero x a e = subst (λ (z : ℕ). z < n) (same_Some p x e) a.0
below (p ∷ ps) n (suc k) x a e = below ps n k x a.1 e

pub set_in_front : (ps : List ℕ) (k n : ℕ) (s : List Bool)
    → length ps ≤ k
    → AllByRecursion (λ p. p < n) ps
    → n ≤ length s
    → AreSet ps k s
    → ((m : ℕ) → n ≡ suc m → IsAmong ps m)
    → AreSetBits ps (take n s)
set_in_front ps k n s l a h i g =
    set_all ps k (take n s) l
    (λ j. (
      λ e. (i j).0 (in_front s n j e),
      λ o.
          let there = subst (λ (z : List ℕ). slice_get z o.0 ≡ Some j) (taken_whole ps k l) o.1 in
          to_front s n j (below ps n o.0 j a there) ((i j).1 o),
    ))
    (λ m e. g m (sym (long_front s n h) ∙ e))
