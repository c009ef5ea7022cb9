-- What is promised of the octets that are written for a value (X.691, 11.1).
use Rattle.std.specs.Prelude.{◌≡◌, ◌⊎◌, ◌<◌, ◌≤◌, length}
use Rattle.asn_base.specs.Abstract.{AbstractValue}
use Rattle.asn_base.specs.Typed.{IsValue}
use Rattle.asn_base.specs.Types.{TypeNumber, Resolved}
use Rattle.std.specs.Prelude.{List}
use Rattle.encodings.specs.Header.{Octets}
use Rattle.packed_encodings.specs.Lengths.{Bits}
use Rattle.packed_encodings.specs.Packing.{Packed}
use Rattle.packed_encodings.specs.Padding.{Padded}
use Rattle.packed_encodings.specs.Weights.{weight}

-- The octets are the bits of a value of the type, filled to octets, and no other octets are.
pub record IsMessage (s : List Resolved) (t : TypeNumber) (v : AbstractValue) (o : Octets) : Type 0 where
  pub value : IsValue s t v
  pub light : weight v ≤ 16777216
  pub bits : Bits
  pub packed : Packed s t v bits
  pub filled : Padded bits o  -- X.691, 11.1
  pub only : (b : Bits) (p : Octets) → Packed s t v b → Padded b p → p ≡ o
  pub not_too_long : length o ≤ 16777216

-- Value v of the type has no message within the limits (own rule). Its nodes and the octets of its character strings
-- are together more than 16,777,216, or its message has more octets than that.
abbrev pub IsTooLong : List Resolved → TypeNumber → AbstractValue → Type 0
IsTooLong s t v =
    (16777216 < weight v) ⊎ ((b : Bits) (o : Octets) → Packed s t v b → Padded b o → 16777216 < length o)
