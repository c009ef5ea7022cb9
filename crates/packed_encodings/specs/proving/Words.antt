-- Numbers as bits: how many these are, what they are worth, and words cut in two.
use Rattle.std.proofs.Common.{arith, ◌≡◌, ◌≢◌, ℕ, zero, suc, ◌+◌, ◌-◌, ◌*◌, ◌/◌, ◌%◌, ◌^◌, ◌<◌, ◌≤◌, Bool, true, false}
use Rattle.std.proofs.Common.{[], ◌∷◌, ◌++◌, length, refl, sym, ap, ◌∙◌}
use Rattle.std.specs.Prelude.{cond, ◌==◌}
use Rattle.std.specs.Int.Digits.{digits_of, number_from_digits}
use Rattle.std.specs.Int.RustNames.{bit_and}
use Rattle.std.proofs.lemmas.Int.Digits.{number_lt, number_digits_of, all_below_base_digits_of}
use Rattle.std.proofs.Math.Nat.{pow-succ', mod-eq_of_lt, add-mul-div_right, mul_left_comm, mul_assoc}
use Rattle.std.proofs.Math.Arith.{mod-mul}
use Rattle.std.proofs.lemmas.Nat.{pow_pos, pow_below, shr-shr, and_mask}
use Rattle.bits.specs.Words.{low_bits}
use Rattle.packed_encodings.specs.Lengths.{Bits, fewest_bits, worth}

pub word_length : (k n : ℕ) → length (low_bits k n) ≡ k
word_length zero n = refl
word_length (suc k) n = let e = word_length k n in omega arith

pub fewest_fit : (m n : ℕ) → n ≤ m → n < 2 ^ fewest_bits m
fewest_fit m n le =
    let a : number_from_digits 2 (digits_of 2 m) < 2 ^ length (digits_of 2 m) =
    number_lt 2 (digits_of 2 m) (all_below_base_digits_of 2 m (omega arith)) in
    let b : number_from_digits 2 (digits_of 2 m) ≡ m = number_digits_of 2 m (omega arith) in
    omega arith

-- ---- what bits are worth

bit_of : (n : ℕ) → cond (n % 2 == 1) 1 0 ≡ n % 2
bit_of n = grind arith

bit_times : (b : Bool) (m : ℕ) → cond b m 0 ≡ cond b 1 0 * m
bit_times true m = omega arith
bit_times false m = omega arith

pub worth_of_word : (k n : ℕ) → worth (low_bits k n) ≡ n % 2 ^ k
worth_of_word zero n = grind arith
worth_of_word (suc k) n =
    let c : cond (n / 2 ^ k % 2 == 1) (2 ^ length (low_bits k n)) 0 ≡ (n / 2 ^ k % 2) * 2 ^ length (low_bits k n) =
    bit_times (n / 2 ^ k % 2 == 1) (2 ^ length (low_bits k n))
    ∙ ap (λ q. q * 2 ^ length (low_bits k n)) (bit_of (n / 2 ^ k)) in
    let l : 2 ^ length (low_bits k n) ≡ 2 ^ k = ap (λ q. 2 ^ q) (word_length k n) in
    let h : worth (low_bits k n) ≡ n % 2 ^ k = worth_of_word k n in
    let p : 2 ^ suc k ≡ 2 * 2 ^ k = pow-succ' 2 k in
    let m : n % (2 * 2 ^ k) ≡ (n / 2 ^ k % 2) * 2 ^ k + n % 2 ^ k = mod-mul n (omega arith) (pow_pos k) in
    let d : cond (n / 2 ^ k % 2 == 1) (2 ^ length (low_bits k n)) 0 ≡ (n / 2 ^ k % 2) * 2 ^ k =
    c ∙ ap (λ q. (n / 2 ^ k % 2) * q) l in
    ap (λ q. q + worth (low_bits k n)) d
    ∙ ap (λ q. (n / 2 ^ k % 2) * 2 ^ k + q) h
    ∙ sym m ∙ ap (λ q. n % q) (sym p)

pub worth_word : (k n : ℕ) → n < 2 ^ k → worth (low_bits k n) ≡ n
worth_word k n l = worth_of_word k n ∙ mod-eq_of_lt l

pub worth_below : (b : Bits) → worth b < 2 ^ length b
worth_below [] = omega arith
worth_below (true ∷ b) =
    let h = worth_below b in let p : 2 ^ suc (length b) ≡ 2 * 2 ^ length b = pow-succ' 2 (length b) in
    omega (arith, h, p)
worth_below (false ∷ b) =
    let h = worth_below b in let p : 2 ^ suc (length b) ≡ 2 * 2 ^ length b = pow-succ' 2 (length b) in
    omega (arith, h, p)

-- ---- words cut in two

-- the high j of m bits, then the low k
pub word_split : (j k m n : ℕ) → j + k ≡ m → low_bits m n ≡ low_bits j (n / 2 ^ k) ++ low_bits k n
word_split zero k m n e = ap (λ q. low_bits q n) (let c : m ≡ k = omega (arith, e) in c)
word_split (suc j) k zero n e = elim (let c : suc j + k ≢ 0 = (λ f. omega (arith, f)) in c e) [ ]
word_split (suc j) k (suc m) n e =
    let g : j + k ≡ m = omega (arith, e) in
    let d : n / 2 ^ m ≡ n / 2 ^ k / 2 ^ j =
    ap (λ q. n / 2 ^ q) (let c : m ≡ k + j = omega (arith, g) in c) ∙ sym (shr-shr n k j) in
    ap (λ q. (q % 2 == 1) ∷ low_bits m n) d ∙ ap (λ q. (n / 2 ^ k / 2 ^ j % 2 == 1) ∷ q) (word_split j k m n g)

twice : (a p n : ℕ) → a * (2 * p) + n ≡ n + (2 * a) * p
twice a p n = omega (arith, mul_left_comm a 2 p, mul_assoc 2 a p)

even : (n a : ℕ) → (n + 2 * a) % 2 ≡ n % 2
even n a = omega arith

turned : (n a p : ℕ) → n + a * p ≡ a * p + n
turned n a p = omega arith

-- what is above the low k bits doesn't count
pub word_low : (k a n : ℕ) → low_bits k (a * 2 ^ k + n) ≡ low_bits k n
word_low zero a n = refl
word_low (suc k) a n =
    let p : 2 ^ suc k ≡ 2 * 2 ^ k = pow-succ' 2 k in
    let c : a * 2 ^ suc k + n ≡ n + (2 * a) * 2 ^ k = ap (λ q. a * q + n) p ∙ twice a (2 ^ k) n in
    let d : (a * 2 ^ suc k + n) / 2 ^ k ≡ n / 2 ^ k + 2 * a =
    ap (λ q. q / 2 ^ k) c ∙ add-mul-div_right n (2 * a) (pow_pos k) in
    let m : (a * 2 ^ suc k + n) / 2 ^ k % 2 ≡ n / 2 ^ k % 2 = ap (λ q. q % 2) d ∙ even (n / 2 ^ k) a in
    let r : low_bits k (a * 2 ^ suc k + n) ≡ low_bits k n =
    ap (low_bits k) (c ∙ turned n (2 * a) (2 ^ k)) ∙ word_low k (2 * a) n in
    ap (λ q. (q == 1) ∷ low_bits k (a * 2 ^ suc k + n)) m ∙ ap (λ q. (n / 2 ^ k % 2 == 1) ∷ q) r

-- ---- the low bits of a word, by a mask

small_shift : (w : ℕ) → w ≤ 8 → 1 * 2 ^ w % 18446744073709551616 ≡ 2 ^ w
small_shift w h =
    let p : 2 ^ w < 2 ^ 9 = pow_below w 9 (omega (arith, h)) in
    let o : 1 * 2 ^ w ≡ 2 ^ w = omega arith in
    ap (λ q. q % 18446744073709551616) o ∙ mod-eq_of_lt (omega (arith, p))

pub masked : (w n : ℕ) → w ≤ 8 → bit_and n (1 * 2 ^ w % 18446744073709551616 - 1) ≡ n % 2 ^ w
masked w n h = ap (λ q. bit_and n (q - 1)) (small_shift w h) ∙ and_mask n w
