-- How many bits small numbers take.
use Rattle.std.proofs.Common.{◌≡◌, ℕ, ◌<◌, ◌≤◌, ◌^◌, arith}
use Rattle.std.proofs.lemmas.Int.Digits.{length-digits_of-le}
use Rattle.packed_encodings.specs.Lengths.{fewest_bits}

pub narrow : (n r : ℕ) → n < 65536 → r ≡ fewest_bits n → r ≤ 64
narrow n r l e =
    let a = length-digits_of-le 2 64 n (omega arith) (let k : n < 2 ^ 64 = omega (arith, l) in k) in
    omega (arith, a, e)
