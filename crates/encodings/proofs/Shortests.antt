-- Each number within the limit has a shortest two's complement, of at most 16 octets.
use Rattle.std.proofs.Common.{arith, ◌≡◌, ℕ, zero, suc, ◌+◌, ◌*◌, ◌/◌, ◌%◌, ◌<◌, ◌≤◌, ◌^◌, ◌⊎◌, inl, inr, ⊎_elim, ℤ, pos, negsuc, List, [], ◌∷◌, ◌++◌, length, refl, sym, subst, ◌∙◌, length-append}
use Rattle.std.proofs.Math.Nat.{pow-suc}
use Rattle.std.specs.Int.Digits.{number_from_digits, AllBelowBase}
use Rattle.std.proofs.lemmas.Int.Digits.{number_after_append}
use Rattle.asn_base.specs.Typed.{IsWithinLimit}
use Rattle.encodings.specs.Contents.{TwosComplement, not_negative, negative, Number}

-- a number with n digits
record Digits (l m : ℕ) : Type 0 where
  octets : List ℕ
  long : length octets ≡ l
  below : AllBelowBase 256 octets
  worth : number_from_digits 256 octets ≡ m

below_last : (xs : List ℕ) (d : ℕ) → AllBelowBase 256 xs → d < 256 → AllBelowBase 256 (xs ++ d ∷ [])
below_last [] d a h = (h, tt)
below_last (x ∷ xs) d a h = (a.0, below_last xs d a.1 h)

digits_in : (l m : ℕ) → m < 256 ^ l → Digits l m
digits_in zero m h = record { octets = []; long = refl; below = tt; worth = omega arith }
digits_in (suc l) m h =
    let r = digits_in l (m / 256) (omega (arith, h, pow-suc 256 l)) in
    let w = r.worth in
    let e = number_after_append 256 0 r.octets ((m % 256) ∷ []) in
    record {
      octets = r.octets ++ (m % 256) ∷ [];
      long = omega (arith, length-append r.octets ((m % 256) ∷ []), r.long);
      below = below_last r.octets (m % 256) r.below (omega arith);
      worth = e ∙ (let f : number_from_digits 256 r.octets * 256 + m % 256 ≡ m = omega arith in f);
    }

pub lt_or_ge : (a b : ℕ) → (a < b) ⊎ (b ≤ a)
lt_or_ge a zero = inr (omega arith)
lt_or_ge zero (suc b) = inl (omega arith)
lt_or_ge (suc a) (suc b) = ⊎_elim (λ h. inl (omega arith)) (λ h. inr (omega arith)) (lt_or_ge a b)

one_at_least : (j : ℕ) → 1 ≤ 256 ^ j
one_at_least zero = omega arith
one_at_least (suc j) = omega (arith, one_at_least j, pow-suc 256 j)

power_le : (i j : ℕ) → i ≤ j → 256 ^ i ≤ 256 ^ j
power_le zero j h = omega (arith, one_at_least j)
power_le (suc i) zero h = absurd (omega arith)
power_le (suc i) (suc j) h = omega (arith, power_le i j (omega arith), pow-suc 256 i, pow-suc 256 j)

record Least (k n : ℕ) : Type 0 where
  l : ℕ
  some : 1 ≤ l
  most : l ≤ k
  fits : 2 * n < 256 ^ l
  least : (j : ℕ) → 1 ≤ j → 2 * n < 256 ^ j → l ≤ j

least_of : (k n : ℕ) → 2 * n < 256 ^ (suc k) → Least (suc k) n
least_of zero n h = record { l = 1; some = omega arith; most = omega arith; fits = h; least = λ j a b. a }
least_of (suc k) n h = ⊎_elim
    (λ a. (let r = least_of k n a in record { l = r.l; some = r.some; most = (let m = r.most in omega arith); fits = r.fits; least = r.least }))
    (λ b. record { l = suc (suc k); some = omega arith; most = omega arith; fits = h; least = λ j a c. (⊎_elim (λ d. omega arith) (λ d. absurd (let p = power_le j (suc k) d in omega arith)) (lt_or_ge (suc k) j)) })
    (lt_or_ge (2 * n) (256 ^ (suc k)))

-- contents of a number
pub record ShortNumber (z : ℤ) : Type 0 where
  pub octets : List ℕ
  pub number : Number z octets
  pub few : length octets ≤ 16

minus : (a b : ℕ) → a ≤ b → (k : ℕ) × (k + a ≡ b)
minus zero b h = (b, omega arith)
minus (suc a) zero h = absurd (omega arith)
minus (suc a) (suc b) h = let r = minus a b (omega arith) in (r.0, let e = r.1 in omega arith)

positive : (n l : ℕ) (o : List ℕ) → length o ≡ l → 1 ≤ l → AllBelowBase 256 o → number_from_digits 256 o ≡ n → 2 * n < 256 ^ l → TwosComplement (pos n) o
positive n l o e s b w h = not_negative (omega arith) b w (subst (λ k. 2 * n < 256 ^ k) (sym e) h)

below_0 : (n l : ℕ) (o : List ℕ) → length o ≡ l → 1 ≤ l → AllBelowBase 256 o → number_from_digits 256 o + suc n ≡ 256 ^ l → 2 * n < 256 ^ l → TwosComplement (negsuc n) o
below_0 n l o e s b w h = negative (omega arith) b (subst (λ k. number_from_digits 256 o + suc n ≡ 256 ^ k) (sym e) w) (subst (λ k. 2 * n < 256 ^ k) (sym e) h)

pub short_number : (z : ℤ) → IsWithinLimit z → ShortNumber z
short_number (pos n) h =
    let a = least_of 15 n (omega arith) in
    let f = a.fits in
    let d = digits_in a.l n (omega arith) in
    let e = d.long in
    let m = a.most in
    record { octets = d.octets; number = record { is = positive n a.l d.octets d.long a.some d.below d.worth a.fits; shortest = λ p q. by d.octets a e p q }; few = omega arith }
  where
    by : (o : List ℕ) (a : Least 16 n) → length o ≡ a.l → (p : List ℕ) → TwosComplement (pos n) p → length o ≤ length p
    by o a e p (not_negative s b w g) = let l = a.least (length p) s g in omega arith
short_number (negsuc n) h =
    let a = least_of 15 n (omega arith) in
    let f = a.fits in
    let r = minus (suc n) (256 ^ a.l) (omega arith) in
    let e' = r.1 in
    let d = digits_in a.l r.0 (omega arith) in
    let e = d.long in
    let w = d.worth in
    let m = a.most in
    record { octets = d.octets; number = record { is = below_0 n a.l d.octets d.long a.some d.below (omega arith) a.fits; shortest = λ p q. by d.octets a e p q }; few = omega arith }
  where
    by : (o : List ℕ) (a : Least 16 n) → length o ≡ a.l → (p : List ℕ) → TwosComplement (negsuc n) p → length o ≤ length p
    by o a e p (negative s b w g) = let l = a.least (length p) s g in omega arith
