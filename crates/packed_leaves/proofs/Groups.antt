-- The bits of several characters as one number.
use Rattle.std.proofs.Common.{arith, ◌≡◌, ℕ, zero, suc, ◌+◌, ◌-◌, ◌*◌, ◌/◌, ◌%◌, ◌^◌, ◌<◌, ◌≤◌, List, [], ◌∷◌, ◌++◌, length, get_or, map, take, drop, refl, sym, ap, subst, ◌∙◌, append_assoc}
use Rattle.std.specs.Int.RustNames.{bit_and}
use Rattle.std.proofs.Math.Nat.{mul-le-mul_right, mod-eq_of_lt}
use Rattle.std.proofs.Math.Seq.{drop-cons, drop-length}
use Rattle.std.proofs.lemmas.Nat.{pow_pos, pow-add, shr_high, shr_split}
use Rattle.std.proofs.lemmas.List.{append-nil}
use Rattle.bits.specs.Words.{low_bits}
use Rattle.packed_encodings.specs.Lengths.{Bits, all_bits}
use Rattle.packed_encodings.specs.proving.Words.{word_split, word_low, masked}

-- ---- low bits

pub low_word : (w n : ℕ) → w ≤ 8 → low_bits w (bit_and n (1 * 2 ^ w % 18446744073709551616 - 1)) ≡ low_bits w n
low_word w n h = ap (low_bits w) (masked w n h) ∙ sym (word_low w (n / 2 ^ w) (n % 2 ^ w)) ∙ ap (low_bits w) (shr_split n w)

-- ---- groups

-- so many bits take at most 64
pub times_more : (i w : ℕ) → (i + 1) * w ≡ i * w + w
times_more i w = grind arith

few_times : (i w : ℕ) → i < 8 → w ≤ 8 → i * w + w ≤ 64
few_times i w l m =
    let a : i * w ≤ 7 * w = mul-le-mul_right w (omega (arith, l)) in
    omega (arith, a, m)

power_at_most : (i j : ℕ) → i ≤ j → 2 ^ i ≤ 2 ^ j
power_at_most i j h = let p : 2 ^ j ≡ 2 ^ (j - i) * 2 ^ i = ap (λ q. 2 ^ q) (let c : j ≡ (j - i) + i = omega (arith, h) in c) ∙ pow-add 2 (j - i) i in
    let q : 1 * 2 ^ i ≤ 2 ^ (j - i) * 2 ^ i = mul-le-mul_right (2 ^ i) (pow_pos (j - i)) in
    omega (arith, p, q)

added_below : (a b v n : ℕ) → v < a → n < b → v * b + n < a * b
added_below a b v n l m =
    let k : (v + 1) * b ≤ a * b = mul-le-mul_right b (omega (arith, l)) in
    let e : (v + 1) * b ≡ v * b + b = times_more v b in
    omega (arith, k, e, m)

-- one more character
pub more_below : (i w v n : ℕ) → v < 2 ^ (i * w) → n < 2 ^ w → v * 2 ^ w + n < 2 ^ (i * w + w)
more_below i w v n l m = subst (λ q. v * 2 ^ w + n < q) (sym (pow-add 2 (i * w) w)) (added_below (2 ^ (i * w)) (2 ^ w) v n l m)

pub none_lost : (i w v : ℕ) → i < 8 → w ≤ 8 → v < 2 ^ (i * w) → v * 2 ^ w % 18446744073709551616 ≡ v * 2 ^ w
none_lost i w v l m s =
    let a : v * 2 ^ w + 0 < 2 ^ (i * w + w) = more_below i w v 0 s (pow_pos w) in
    let b : 2 ^ (i * w + w) ≤ 2 ^ 64 = power_at_most (i * w + w) 64 (few_times i w l m) in
    mod-eq_of_lt (omega (arith, a, b))

-- the sum, in which no bit is lost
pub sum_small : (i w v n : ℕ) → i < 8 → w ≤ 8 → v < 2 ^ (i * w) → n < 2 ^ w → v * 2 ^ w % 18446744073709551616 + n < 2 ^ ((i + 1) * w)
sum_small i w v n l m s t =
    subst (λ q. v * 2 ^ w % 18446744073709551616 + n < 2 ^ q) (sym (times_more i w))
    (subst (λ q. q + n < 2 ^ (i * w + w)) (sym (none_lost i w v l m s)) (more_below i w v n s t))

pub sum_fits : (i w v n : ℕ) → i < 8 → w ≤ 8 → v < 2 ^ (i * w) → n < 2 ^ w → v * 2 ^ w % 18446744073709551616 + n < 18446744073709551616
sum_fits i w v n l m s t =
    let a = sum_small i w v n l m s t in
    let c : (i + 1) * w ≤ 64 = subst (λ q. q ≤ 64) (sym (times_more i w)) (few_times i w l m) in
    let b : 2 ^ ((i + 1) * w) ≤ 2 ^ 64 = power_at_most ((i + 1) * w) 64 c in
    omega (arith, a, b)

word_joined : (j w v n : ℕ) → n < 2 ^ w → low_bits (j + w) (v * 2 ^ w + n) ≡ low_bits j v ++ low_bits w n
word_joined j w v n l =
    word_split j w (j + w) (v * 2 ^ w + n) refl
    ∙ ap (λ q. low_bits j q ++ low_bits w (v * 2 ^ w + n)) (shr_high v w n l)
    ∙ ap (λ q. low_bits j v ++ q) (word_low w v n)

pub group_more : (f : ℕ → Bits) (text : List ℕ) (i w v n : ℕ) → i < length text → i < 8 → w ≤ 8 → v < 2 ^ (i * w) → n < 2 ^ w → low_bits w n ≡ f (get_or text i 0) → low_bits (i * w) v ++ all_bits (map f (drop i text)) ≡ all_bits (map f text) → low_bits ((i + 1) * w) (v * 2 ^ w % 18446744073709551616 + n) ++ all_bits (map f (drop (i + 1) text)) ≡ all_bits (map f text)
group_more f text i w v n k l m s t e h =
    let rest : Bits = all_bits (map f (drop (i + 1) text)) in
    let c : drop i text ≡ get_or text i 0 ∷ drop (i + 1) text = drop-cons text i 0 k ∙ ap (λ q. get_or text i 0 ∷ drop q text) (let g : suc i ≡ i + 1 = omega arith in g) in
    ap (λ q. low_bits q (v * 2 ^ w % 18446744073709551616 + n) ++ rest) (times_more i w)
    ∙ ap (λ q. low_bits (i * w + w) (q + n) ++ rest) (none_lost i w v l m s)
    ∙ ap (λ q. q ++ rest) (word_joined (i * w) w v n t)
    ∙ ap (λ q. (low_bits (i * w) v ++ q) ++ rest) e
    ∙ append_assoc (low_bits (i * w) v) (f (get_or text i 0)) rest
    ∙ ap (λ q. low_bits (i * w) v ++ all_bits (map f q)) (sym c)
    ∙ h

-- the whole group
pub group_whole : (f : ℕ → Bits) (text : List ℕ) (i w v : ℕ) → i ≡ length text → low_bits (i * w) v ++ all_bits (map f (drop i text)) ≡ all_bits (map f text) → low_bits (length text * w) v ≡ all_bits (map f text)
group_whole f text i w v e h =
    let n : drop (length text) text ≡ [] = drop-length text in
    sym (append-nil (low_bits (length text * w) v)) ∙ ap (λ q. low_bits (length text * w) v ++ all_bits (map f q)) (sym n) ∙ subst (λ q. low_bits (q * w) v ++ all_bits (map f (drop q text)) ≡ all_bits (map f text)) e h

-- the next characters, and those after them
split_at : (f : ℕ → Bits) (k : ℕ) (text : List ℕ) → all_bits (map f text) ≡ all_bits (map f (take k text)) ++ all_bits (map f (drop k text))
split_at f zero text = refl
split_at f (suc k) [] = refl
split_at f (suc k) (x ∷ xs) =
    ap (λ q. f x ++ q) (split_at f k xs) ∙ sym (append_assoc (f x) (all_bits (map f (take k xs))) (all_bits (map f (drop k xs))))

pub next_group : (f : ℕ → Bits) (k : ℕ) (text front after : List ℕ) (old new all : Bits) → front ≡ take k text → after ≡ drop k text
    → new ≡ old ++ all_bits (map f front) → old ++ all_bits (map f text) ≡ all → new ++ all_bits (map f after) ≡ all
next_group f k text front after old new all e g h i =
    ap (λ q. q ++ all_bits (map f after)) h
    ∙ append_assoc old (all_bits (map f front)) (all_bits (map f after))
    ∙ ap (λ q. old ++ (all_bits (map f q) ++ all_bits (map f after))) e
    ∙ ap (λ q. old ++ (all_bits (map f (take k text)) ++ all_bits (map f q))) g
    ∙ ap (λ q. old ++ q) (sym (split_at f k text))
    ∙ i
