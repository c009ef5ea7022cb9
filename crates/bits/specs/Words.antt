-- Numbers and octets as bits, the most significant first (X.691, clause 11.3). Other crates specify bits in this form.
use Rattle.std.specs.Prelude.{ℕ, zero, suc, ◌/◌, ◌%◌, ◌^◌, ◌==◌, Bool, List, [], ◌∷◌, flat_map}

-- the low k bits of number n, the highest of them first
abbrev pub low_bits : ℕ → ℕ → List Bool
low_bits zero n = []
low_bits (suc k) n = (n / 2 ^ k % 2 == 1) ∷ low_bits k n

-- the bits of octets, eight for each, one octet after the other
abbrev pub octet_bits : List ℕ → List Bool
octet_bits = flat_map (low_bits 8)

-- the bits of words of 64 bits, one low_bits after the other
abbrev pub word_bits : List ℕ → List Bool
word_bits = flat_map (low_bits 64)
