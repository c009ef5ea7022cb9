-- Numbers of octets, and octets of a number in two's complement.
use Rattle.std.proofs.Common.{arith, ◌≡◌, ℕ, ℤ, suc, ◌+◌, ◌-◌, ◌*◌, ◌<◌, ◌≤◌, ◌^◌, pos, negsuc, List, [], ◌∷◌, length, map, refl, ap, ◌∙◌, ⊎_elim}
use Rattle.std.proofs.lemmas.Bool.{cases_lt}
use Rattle.std.proofs.Math.Nat.{mul-le-mul_left, pow-suc, pow-le-pow_right}
use Rattle.std.specs.Int.Digits.{number_from_digits, number_from_digits_after, AllBelowBase}
use Rattle.std.proofs.lemmas.Int.Digits.{number_lt}
use Rattle.encodings.specs.Contents.{TwosComplement, not_negative, negative, Number}

-- ---- the first octet's part

split : (n : ℕ) (ds : List ℕ) → number_from_digits_after 256 n ds ≡ n * 256 ^ length ds + number_from_digits 256 ds
split n [] = omega arith
split n (d ∷ ds) =
    let a = split (n * 256 + d) ds in
    let b = split (0 * 256 + d) ds in
    omega (arith, a, b, ap (λ k. n * k) (pow-suc 256 (length ds)))

pub first_part : (x : ℕ) (xs : List ℕ)
    → number_from_digits 256 (x ∷ xs) ≡ x * 256 ^ length xs + number_from_digits 256 xs
first_part x xs = let s = split (0 * 256 + x) xs in omega (arith, s)

-- a number with a small first octet is below half of what as many octets can hold
pub low_below : (x : ℕ) (xs : List ℕ) → x < 128 → AllBelowBase 256 xs
    → 2 * number_from_digits 256 (x ∷ xs) < 256 ^ length (x ∷ xs)
low_below x xs l all =
    let r = number_lt 256 xs all in
    let more = mul-le-mul_left (256 ^ length xs) (let h : x + 1 ≤ 128 = omega arith in h) in
    omega (arith, first_part x xs, r, more, pow-suc 256 (length xs))

-- too great for fewer octets
pub low_least : (x y : ℕ) (ys : List ℕ) → (x ≡ 0 → 128 ≤ y)
    → 256 ^ length (y ∷ ys) ≤ 2 * number_from_digits 256 (x ∷ y ∷ ys)
low_least x y ys h = ⊎_elim none some (cases_lt x 1)
  where
    none : x < 1 → 256 ^ length (y ∷ ys) ≤ 2 * number_from_digits 256 (x ∷ y ∷ ys)
    none l =
        let g : 128 ≤ y = h (omega arith) in
        let more = mul-le-mul_left (256 ^ length ys) g in
        omega (arith, first_part x (y ∷ ys), first_part y ys, more, pow-suc 256 (length ys))

    some : 1 ≤ x → 256 ^ length (y ∷ ys) ≤ 2 * number_from_digits 256 (x ∷ y ∷ ys)
    some l =
        let more = mul-le-mul_left (256 ^ length (y ∷ ys)) l in
        omega (arith, first_part x (y ∷ ys), more)

pub enough : (n : ℕ) (p : List ℕ) → TwosComplement (pos n) p → 2 * n < 256 ^ length p
enough n p (not_negative l b e h) = h

pub some_octets : (n : ℕ) (p : List ℕ) → TwosComplement (pos n) p → 1 ≤ length p
some_octets n p (not_negative l b e h) = l

-- ---- each bit turned

abbrev pub complement : ℕ → ℕ
complement d = 255 - d

after_complement : (m n : ℕ) (ds : List ℕ) → AllBelowBase 256 ds → number_from_digits_after 256 m (map complement ds)
    + number_from_digits_after 256 n ds + 1 ≡ (m + n + 1) * 256 ^ length ds
after_complement m n [] all = omega arith
after_complement m n (d ∷ ds) all =
    let here : d < 256 = all.0 in
    let ih = after_complement (m * 256 + (255 - d)) (n * 256 + d) ds all.1 in
    let sum : m * 256 + (255 - d) + (n * 256 + d) + 1 ≡ (m + n + 1) * 256 = omega arith in
    ih ∙ ap (λ k. k * 256 ^ length ds) sum ∙ omega (arith, ap (λ k. (m + n + 1) * k) (pow-suc 256 (length ds)))

pub below_complement : (ds : List ℕ) → AllBelowBase 256 (map complement ds)
below_complement [] = tt
below_complement (d ∷ ds) = (omega arith, below_complement ds)

pub length_map : (ds : List ℕ) → length (map complement ds) ≡ length ds
length_map [] = refl
length_map (d ∷ ds) = ap suc (length_map ds)

sum_complement : (ds : List ℕ) → AllBelowBase 256 ds
    → number_from_digits 256 (map complement ds) + number_from_digits 256 ds + 1 ≡ 256 ^ length ds
sum_complement ds all = after_complement 0 0 ds all ∙ omega arith

turn : {n : ℕ} {o : List ℕ} → TwosComplement (pos n) o → TwosComplement (negsuc n) (map complement o)
turn {n} {o} (not_negative l b e h) =
    let same = length_map o in
    let powers : 256 ^ length (map complement o) ≡ 256 ^ length o = ap (λ k. 256 ^ k) same in
    negative (omega (arith, same)) (below_complement o) (omega (arith, powers, sum_complement o b, e))
    (omega (arith, powers))

turn_back : {n : ℕ} {o : List ℕ} → TwosComplement (negsuc n) o → TwosComplement (pos n) (map complement o)
turn_back {n} {o} (negative l b e h) =
    let same = length_map o in
    let powers : 256 ^ length (map complement o) ≡ 256 ^ length o = ap (λ k. 256 ^ k) same in
    not_negative (omega (arith, same)) (below_complement o) (omega (arith, sum_complement o b, e))
    (omega (arith, powers))

pub turned : (n : ℕ) (o : List ℕ) → Number (pos n) o → Number (negsuc n) (map complement o)
turned n o a = record {
  is = turn a.is;
  shortest = λ p h. omega (arith, length_map o, length_map p, a.shortest (map complement p) (turn_back h));
}

pub turned_twice : (o : List ℕ) → AllBelowBase 256 o → map complement (map complement o) ≡ o
turned_twice [] all = refl
turned_twice (x ∷ o) all =
    let l : x < 256 = all.0 in
    let e : 255 - (255 - x) ≡ x = omega arith in
    ap (λ q. q ∷ map complement (map complement o)) e ∙ ap (λ q. x ∷ q) (turned_twice o all.1)

pub worth_within : (o : List ℕ) → AllBelowBase 256 o → length o ≤ 16 → number_from_digits_after 256 0 o < 2 ^ 128
worth_within o all few =
    let a = number_lt 256 o all in
    let mono : 256 ^ length o ≤ 256 ^ 16 = pow-le-pow_right (omega arith) few in
    omega (arith, a, mono)

-- ---- octets that aren't short

pub without_zero : {z : ℤ} {y : ℕ} {ys : List ℕ} → TwosComplement z (0 ∷ y ∷ ys) → y < 128 → TwosComplement z (y ∷ ys)
without_zero {y = y} {ys = ys} (not_negative l b e h) lt = not_negative (omega arith) b.1 e
    (let k = low_below y ys lt b.1.1 in omega (arith, k, e))
without_zero {y = y} {ys = ys} (negative l b e h) lt =
    absurd (let r = number_lt 256 (y ∷ ys) b.1 in omega
    (arith, first_part 0 (y ∷ ys), e, h, r, pow-suc 256 (length (y ∷ ys))))

pub without_ones : {z : ℤ} {y : ℕ} {ys : List ℕ} → TwosComplement z (255 ∷ y ∷ ys) → 128 ≤ y → TwosComplement z (y ∷ ys)
without_ones {y = y} {ys = ys} (not_negative l b e h) ge =
    absurd (let r = number_lt 256 (y ∷ ys) b.1 in omega
    (arith, first_part 255 (y ∷ ys), e, h, r, pow-suc 256 (length (y ∷ ys))))
without_ones {y = y} {ys = ys} (negative {n = m} l b e h) ge =
    let more = mul-le-mul_left (256 ^ length ys) ge in
    let f : number_from_digits 256 (y ∷ ys) + suc m ≡ 256 ^ length (y ∷ ys) =
    omega (arith, first_part 255 (y ∷ ys), e, pow-suc 256 (length (y ∷ ys))) in
    negative (omega arith) b.1 f (omega (arith, f, first_part y ys, more, pow-suc 256 (length ys)))

pub all_octets : {z : ℤ} {o : List ℕ} → TwosComplement z o → AllBelowBase 256 o
all_octets (not_negative l b e h) = b
all_octets (negative l b e h) = b

pub some_there : {z : ℤ} {o : List ℕ} → TwosComplement z o → 1 ≤ length o
some_there (not_negative l b e h) = l
some_there (negative l b e h) = l
