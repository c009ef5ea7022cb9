-- Numbers as bits, one by one.
use Rattle.std.proofs.Common.{◌≡◌, ℕ, ◌+◌, ◌-◌, ◌/◌, ◌%◌, ◌^◌, ◌<◌, ◌≤◌, false, ◌∷◌, sym, ap, ◌∙◌, add-one, arith}
use Rattle.std.proofs.lemmas.Nat.{shr_below, shr-shr}
use Rattle.std.proofs.Math.Nat.{zero-div}
use Rattle.std.specs.Prelude.{◌==◌}
use Rattle.bits.specs.Words.{low_bits}

pub one_bit : (k j n : ℕ) → j + 1 ≡ k → low_bits k n ≡ (n / 2 ^ j % 2 == 1) ∷ low_bits j n
one_bit k j n e = ap (λ q. low_bits q n) (sym e ∙ add-one j)

-- a number of 128 bits has none above
pub none_high : (n k : ℕ) → n < 2 ^ 128 → 128 ≤ k → false ≡ (n / 2 ^ k % 2 == 1)
none_high n k h l =
    let a : n / 2 ^ 128 < 2 ^ 0 = shr_below n 0 128 h in
    let b : n / 2 ^ 128 ≡ 0 = omega (arith, a) in
    let c : n / 2 ^ k ≡ n / 2 ^ 128 / 2 ^ (k - 128) = ap (λ q. n / 2 ^ q) (let e : k ≡ 128 + (k - 128) = omega (arith, l) in e) ∙ sym (shr-shr n 128 (k - 128)) in
    let d : n / 2 ^ k ≡ 0 = c ∙ ap (λ q. q / 2 ^ (k - 128)) b ∙ zero-div (2 ^ (k - 128)) in
    ap (λ q. q % 2 == 1) (sym d)
