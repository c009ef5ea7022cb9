-- Whether two abstract values are equal, by computing. `AlikeBy` is weaker: it leaves the order in a SET OF aside.
use Rattle.std.specs.Prelude.{◌==◌, ◌&&◌, Bool, true, false}
use Rattle.std.specs.Bool.{beq}
use Rattle.std.specs.Ordering.{int_eq}
use Rattle.std.specs.Cmp.Lexicographic.{pointwise}
use Rattle.asn_base.specs.Abstract.{AbstractValue, boolean, integer, enumerated, bits, octets, text, null, oid, relative_oid}
use Rattle.asn_base.specs.Abstract.{fields, list, alternative, Row, end, absent, present}

abbrev mutual
  -- the values have one form and equal parts
  pub are_equal : AbstractValue → AbstractValue → Bool
  are_equal (boolean a) (boolean b) = beq a b
  are_equal (integer a) (integer b) = int_eq a b
  are_equal (enumerated a) (enumerated b) = int_eq a b
  are_equal (bits a) (bits b) = pointwise beq a b
  are_equal (octets a) (octets b) = pointwise ◌==◌ a b
  are_equal (text a) (text b) = pointwise ◌==◌ a b
  are_equal null null = true
  are_equal (oid a) (oid b) = pointwise ◌==◌ a b
  are_equal (relative_oid a) (relative_oid b) = pointwise ◌==◌ a b
  are_equal (fields r) (fields q) = are_equal_rows r q
  are_equal (list r) (list q) = are_equal_rows r q
  are_equal (alternative i v) (alternative j w) = (i == j) && are_equal v w
  are_equal v w = false

  -- the rows are equally long, the same members are absent, and those present are equal
  pub are_equal_rows : Row → Row → Bool
  are_equal_rows end end = true
  are_equal_rows (absent r) (absent q) = are_equal_rows r q
  are_equal_rows (present v r) (present w q) = are_equal v w && are_equal_rows r q
  are_equal_rows r q = false
