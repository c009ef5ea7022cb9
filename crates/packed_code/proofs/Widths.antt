-- How many bits numbers take.
use Rattle.std.proofs.Common.{ap, ◌∙◌, zero, suc, ◌*◌, ◌≡◌, ℕ, ◌+◌, ◌-◌, ◌/◌, ◌<◌, ◌≤◌, ◌^◌, arith}
use Rattle.std.proofs.lemmas.Int.Digits.{length-digits_of_step, length-digits_of-le}
use Rattle.std.proofs.lemmas.Nat.{leading_le, leading_length, pow_pos, pow-add}
use Rattle.std.specs.Int.{leading_zeros, w128}
use Rattle.packed_encodings.specs.Lengths.{fewest_bits}

pub at_most : (n : ℕ) → n < 2 ^ 128 → fewest_bits n ≤ 128
at_most n h = length-digits_of-le 2 128 n (omega arith) h

-- more digits than a power of two has are those of no less a number
at_least : (m n : ℕ) → n < 2 ^ m → 2 ^ m ≤ 2 * n + 1 → m ≤ fewest_bits n
at_least zero n l h = omega arith
at_least (suc m) n l h =
    let e : 2 ^ suc m ≡ 2 * 2 ^ m = ap (λ q. 2 ^ q) (let g : suc m ≡ 1 + m = omega arith in g) ∙ pow-add 2 1 m in
    let p = pow_pos m in
    let some : 0 < n = omega (arith, h, p, e) in
    let r = at_least m (n / 2) (omega (arith, l, e)) (omega (arith, h, e)) in
    let s = length-digits_of_step 2 n (omega arith) some in
    omega (arith, r, s)

-- the digits of a number are those after its leading zeros
pub bits_left : (n r : ℕ) → n < 2 ^ 128 → r ≡ leading_zeros w128 n → 128 - r ≡ fewest_bits n
bits_left n r h e =
    let l = leading_length 128 n h in
    let up = length-digits_of-le 2 l.0 n (omega arith) l.2 in
    let down = at_least l.0 n l.2 l.3 in
    let z = l.1 in
    omega (arith, e, z, up, down)

pub zeros_le : (n r : ℕ) → n < 2 ^ 128 → r ≡ leading_zeros w128 n → r ≤ 128
zeros_le n r h e = let l = leading_le 128 n in omega (arith, e, l)

pub few_places : (n r : ℕ) → n < 2 ^ 64 → r ≡ fewest_bits (n - 1) → r ≤ 64
few_places n r l e =
    let a = length-digits_of-le 2 64 (n - 1) (omega arith) (let k : n - 1 < 2 ^ 64 = omega (arith, l) in k) in
    omega (arith, a, e)
