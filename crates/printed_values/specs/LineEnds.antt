-- The values whose printed text is read back (X.680, clauses 12.1.6 and 41). A text with a line end in it is printed as
-- its octets, which isn't a notation of a text.
use Rattle.std.specs.Prelude.{◌≡◌, false}
use Rattle.std.specs.List.{list_any}
use Rattle.asn_base.specs.Abstract.{AbstractValue, text, fields, list, alternative, Row, end, absent, present}
use Rattle.value_text.specs.Print.{is_line_end}

abbrev mutual
  -- no character string in the value, at any depth, has a line end in it
  pub HasNoLineEnd : AbstractValue → Type 0
  HasNoLineEnd (text o) = list_any is_line_end o ≡ false
  HasNoLineEnd (fields vs) = HaveNoLineEnd vs
  HasNoLineEnd (list vs) = HaveNoLineEnd vs
  HasNoLineEnd (alternative i v) = HasNoLineEnd v
  HasNoLineEnd v = Unit {0}

  -- no character string in the members of the row, at any depth, has a line end in it
  pub HaveNoLineEnd : Row → Type 0
  HaveNoLineEnd end = Unit {0}
  HaveNoLineEnd (absent vs) = HaveNoLineEnd vs
  HaveNoLineEnd (present v vs) = HasNoLineEnd v × HaveNoLineEnd vs
