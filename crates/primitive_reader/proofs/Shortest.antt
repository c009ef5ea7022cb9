-- Octets of a number in two's complement: the shortest ones.
use Rattle.std.proofs.Common.{arith, ◌≡◌, ℕ, ℤ, ◌+◌, ◌-◌, ◌*◌, ◌<◌, ◌≤◌, ◌^◌, pos, negsuc, List, [], ◌∷◌, length, get_or, map, refl, subst, ⊎_elim}
use Rattle.std.proofs.lemmas.Bool.{cases_lt}
use Rattle.std.proofs.Math.Nat.{pow-le-pow_right}
use Rattle.std.specs.Int.Digits.{number_from_digits, AllBelowBase}
use Rattle.std.proofs.lemmas.Int.Digits.{number_after_ge}
use Rattle.asn_base.specs.Typed.{IsWithinLimit}
use Rattle.encodings.specs.Contents.{TwosComplement, Number}
use Rattle.encodings.specs.proving.TwosComplement.{low_least, enough, complement, below_complement, length_map, worth_within, without_zero, without_ones, all_octets, some_there}
use Rattle.primitive_reader.specs.proving.Numbers.{IsShort, turned_after}
use Rattle.primitive_reader.specs.proving.Shortest.{short_turned, head_turned}
pub use Rattle.primitive_reader.specs.proving.Shortest.{worth_step, worth_fits, worth_small, worth_none, low_number, high_number}

-- ---- one octet more

pub turned_step : (high x : ℕ) (o b : List ℕ) → o ≡ x ∷ b → turned_after high o < 2 ^ 128 → turned_after (high * 256 + (255 - x)) b < 2 ^ 128
turned_step high x o b e l = subst (λ q. turned_after high q < 2 ^ 128) e l

pub turned_fits : (high x : ℕ) (o b : List ℕ) → o ≡ x ∷ b → turned_after high o < 2 ^ 128 → high * 256 + (255 - x) < 2 ^ 128
turned_fits high x o b e l =
    let k = turned_step high x o b e l in
    let m = number_after_ge 256 (high * 256 + (255 - x)) (map (λ d. 255 - d) b) (omega arith) in
    omega (arith, k, m)

pub turned_small : (high x : ℕ) (o b : List ℕ) → o ≡ x ∷ b → turned_after high o < 2 ^ 128 → high * 256 < 2 ^ 128
turned_small high x o b e l = let k = turned_fits high x o b e l in omega (arith, k)

pub turned_none : (high : ℕ) (o : List ℕ) → length o ≡ 0 → high ≡ turned_after high o
turned_none high [] e = refl
turned_none high (x ∷ o) e = absurd (omega arith)

-- ---- within the limit

pub low_within : (o : List ℕ) → AllBelowBase 256 o → IsShort o → length o ≤ 16 → get_or o 0 0 < 128 → number_from_digits 256 o < 2 ^ 127
low_within o all s few l =
    let a = enough _ o ((low_number o all s l).is) in
    let mono : 256 ^ length o ≤ 256 ^ 16 = pow-le-pow_right (omega arith) few in
    omega (arith, a, mono)

pub high_within : (o : List ℕ) → AllBelowBase 256 o → IsShort o → length o ≤ 16 → 128 ≤ get_or o 0 0 → turned_after 0 o < 2 ^ 127
high_within o all s few l = low_within (map complement o) (below_complement o) (short_turned o all s) (omega (arith, length_map o, few)) (head_turned o s l)

pub turned_within : (o : List ℕ) → length o ≤ 16 → turned_after 0 o < 2 ^ 128
turned_within o few = worth_within (map complement o) (below_complement o) (omega (arith, length_map o, few))

-- ---- past the limit

past : (o : List ℕ) → AllBelowBase 256 o → IsShort o → 17 ≤ length o → 2 ^ 127 ≤ number_from_digits 256 o
past [] all s l = elim s [ ]
past (x ∷ []) all s l = absurd (omega arith)
past (x ∷ y ∷ ys) all s l =
    let least = low_least x y ys s.0 in
    let m : 16 ≤ length (y ∷ ys) = omega arith in
    let mono : 256 ^ 16 ≤ 256 ^ length (y ∷ ys) = pow-le-pow_right (omega arith) m in
    omega (arith, least, mono)

pub past_limit : (o : List ℕ) → AllBelowBase 256 o → IsShort o → 17 ≤ length o → (z : ℤ) × Number z o × (IsWithinLimit z → ⊥)
past_limit o all s l = ⊎_elim low high (cases_lt (get_or o 0 0) 128)
  where
    low : get_or o 0 0 < 128 → (z : ℤ) × Number z o × (IsWithinLimit z → ⊥)
    low lt = (pos (number_from_digits 256 o), low_number o all s lt, λ w. (let p = past o all s l in omega (arith, w, p)))

    high : 128 ≤ get_or o 0 0 → (z : ℤ) × Number z o × (IsWithinLimit z → ⊥)
    high ge = (
      negsuc (turned_after 0 o),
      high_number o all s ge,
      λ w. (let p = past (map complement o) (below_complement o) (short_turned o all s) (omega (arith, length_map o, l)) in omega (arith, w, p)),
    )

pub no_number : (o : List ℕ) → (IsShort o → ⊥) → (z : ℤ) → Number z o → ⊥
no_number [] h z n = let l = some_there n.is in omega (arith, l)
no_number (x ∷ []) h z n = h tt
no_number (x ∷ y ∷ ys) h z n = ⊎_elim zero_first (λ ge. ⊎_elim (λ lt. h (λ e. absurd (omega arith), λ e. absurd (omega arith))) ones_first (cases_lt x 255)) (cases_lt x 1)
  where
    shorter : TwosComplement z (y ∷ ys) → ⊥
    shorter t = let l = n.shortest (y ∷ ys) t in omega (arith, l)

    zero_first : x < 1 → ⊥
    zero_first l =
        let e : x ≡ 0 = omega arith in
        ⊎_elim (λ lt. shorter (without_zero (subst (λ q. TwosComplement z (q ∷ y ∷ ys)) e n.is) lt)) (λ ge. h (λ f. ge, λ f. absurd (omega arith))) (cases_lt y 128)

    ones_first : 255 ≤ x → ⊥
    ones_first l =
        let b : x < 256 = (all_octets n.is).0 in
        let e : x ≡ 255 = omega arith in
        ⊎_elim (λ lt. h (λ f. absurd (omega arith), λ f. lt)) (λ ge. shorter (without_ones (subst (λ q. TwosComplement z (q ∷ y ∷ ys)) e n.is) ge)) (cases_lt y 128)
