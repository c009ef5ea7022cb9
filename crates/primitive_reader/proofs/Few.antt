-- Numbers of at most eight octets.
use Rattle.std.proofs.Common.{arith, ◌≡◌, ℕ, ◌+◌, ◌-◌, ◌*◌, ◌<◌, ◌≤◌, ◌^◌, List, [], ◌∷◌, length, map, refl, subst}
use Rattle.std.proofs.Math.Nat.{pow-le-pow_right}
use Rattle.std.specs.Int.Digits.{number_from_digits_after, AllBelowBase}
use Rattle.std.proofs.lemmas.Int.Digits.{number_after_ge, number_lt}
use Rattle.encodings.specs.proving.TwosComplement.{complement, below_complement, length_map}
use Rattle.primitive_reader.specs.proving.Numbers.{turned_after}

pub worth_step : (high x : ℕ) (o b : List ℕ) → o ≡ x ∷ b → number_from_digits_after 256 high o < 2 ^ 64 → number_from_digits_after 256 (high * 256 + x) b < 2 ^ 64
worth_step high x o b e l = subst (λ q. number_from_digits_after 256 high q < 2 ^ 64) e l

pub worth_fits : (high x : ℕ) (o b : List ℕ) → o ≡ x ∷ b → number_from_digits_after 256 high o < 2 ^ 64 → high * 256 + x < 2 ^ 64
worth_fits high x o b e l =
    let k = worth_step high x o b e l in
    let m = number_after_ge 256 (high * 256 + x) b (omega arith) in
    omega (arith, k, m)

pub worth_small : (high x : ℕ) (o b : List ℕ) → o ≡ x ∷ b → number_from_digits_after 256 high o < 2 ^ 64 → high * 256 < 2 ^ 64
worth_small high x o b e l = let k = worth_fits high x o b e l in omega (arith, k)

pub worth_none : (high : ℕ) (o : List ℕ) → length o ≡ 0 → high ≡ number_from_digits_after 256 high o
worth_none high [] e = refl
worth_none high (x ∷ o) e = absurd (omega arith)

pub turned_step : (high x : ℕ) (o b : List ℕ) → o ≡ x ∷ b → turned_after high o < 2 ^ 64 → turned_after (high * 256 + (255 - x)) b < 2 ^ 64
turned_step high x o b e l = subst (λ q. turned_after high q < 2 ^ 64) e l

pub turned_fits : (high x : ℕ) (o b : List ℕ) → o ≡ x ∷ b → turned_after high o < 2 ^ 64 → high * 256 + (255 - x) < 2 ^ 64
turned_fits high x o b e l =
    let k = turned_step high x o b e l in
    let m = number_after_ge 256 (high * 256 + (255 - x)) (map (λ d. 255 - d) b) (omega arith) in
    omega (arith, k, m)

pub turned_small : (high x : ℕ) (o b : List ℕ) → o ≡ x ∷ b → turned_after high o < 2 ^ 64 → high * 256 < 2 ^ 64
turned_small high x o b e l = let k = turned_fits high x o b e l in omega (arith, k)

pub turned_none : (high : ℕ) (o : List ℕ) → length o ≡ 0 → high ≡ turned_after high o
turned_none high [] e = refl
turned_none high (x ∷ o) e = absurd (omega arith)

pub few_within : (o : List ℕ) → AllBelowBase 256 o → length o ≤ 8 → number_from_digits_after 256 0 o < 2 ^ 64
few_within o all few =
    let a = number_lt 256 o all in
    let mono : 256 ^ length o ≤ 256 ^ 8 = pow-le-pow_right (omega arith) few in
    omega (arith, a, mono)

pub few_turned : (o : List ℕ) → length o ≤ 8 → turned_after 0 o < 2 ^ 64
few_turned o few = few_within (map complement o) (below_complement o) (omega (arith, length_map o, few))
