-- Sets of character codes below 128 (X.680, 41).
use Rattle.std.specs.Prelude.{ℕ, zero, suc, ◌==◌, ◌-◌, List, [], ◌∷◌, if◌then◌else◌}
use Rattle.std.specs.Int.{bit_at}

-- the codes among the last n below 128 whose bit of the number is set, in ascending order
unfoldable pub codes_from : (n bits : ℕ) → List ℕ
codes_from zero bits = []
codes_from (suc n) bits =
    if bit_at bits (127 - n) == 1 then ((127 - n) ∷ codes_from n bits) else codes_from n bits

-- the codes below 128 whose bit of the number is set, in ascending order
unfoldable pub codes_of : ℕ → List ℕ
codes_of bits = codes_from 128 bits
