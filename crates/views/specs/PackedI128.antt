-- Numbers of 128 bits in two halves, in which a decoded INTEGER or ENUMERATED is kept (own rule).
use Rattle.std.specs.Prelude.{◌+◌, ◌*◌, ◌^◌, ℤ}
use Rattle.std.specs.Int.{cast_signed, w128}
use Rattle.views.specs.declared.packed_i128.PackedI128.{PackedI128}

-- the number whose two's complement the halves are
abbrev pub number_of : PackedI128 → ℤ
number_of h = cast_signed w128 (h.high * 2 ^ 64 + h.low)
