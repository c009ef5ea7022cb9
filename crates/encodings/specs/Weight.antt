-- The weight of a value: its encoding by the distinguished rules has at most so many octets. It is 2,000 for each node,
-- and one more for each octet or bit of its strings.
use Rattle.std.specs.Prelude.{ℕ, ◌+◌, length}
use Rattle.asn_base.specs.Abstract.{AbstractValue, bits, octets, text, fields, list, alternative, Row, end, absent}
use Rattle.asn_base.specs.Abstract.{present}

abbrev mutual
  pub weight : AbstractValue → ℕ
  weight (bits s) = 2000 + length s
  weight (octets o) = 2000 + length o
  weight (text o) = 2000 + length o
  weight (fields vs) = 2000 + row_weight vs
  weight (list vs) = 2000 + row_weight vs
  weight (alternative i v) = 2000 + weight v
  weight v = 2000

  pub row_weight : Row → ℕ
  row_weight end = 0
  row_weight (absent vs) = row_weight vs
  row_weight (present v vs) = weight v + row_weight vs
