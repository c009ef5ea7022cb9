-- How much of a message's limit a value takes (own rule). Elements and characters of packed encodings may take no bits,
-- so that the octets of a message don't bound them (X.691, clauses 18, 20 and 30.5).
use Rattle.std.specs.Prelude.{ℕ, suc, ◌+◌, length}
use Rattle.asn_base.specs.Abstract.{AbstractValue, text, fields, list, alternative, Row, end, absent, present}

-- the number of octets of a character string, and 0 of any other value
abbrev pub characters : AbstractValue → ℕ
characters (text o) = length o
characters v = 0

abbrev mutual
  -- the number of a value's nodes, and of the octets of its character strings, together
  pub weight : AbstractValue → ℕ
  weight (fields vs) = suc (row_weight vs)
  weight (list vs) = suc (row_weight vs)
  weight (alternative i v) = suc (weight v)
  weight v = suc (characters v)

  -- the same of the members of a row together, absent ones none
  pub row_weight : Row → ℕ
  row_weight end = 0
  row_weight (absent vs) = row_weight vs
  row_weight (present v vs) = weight v + row_weight vs
