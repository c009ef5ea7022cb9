-- What a type keeps of a value of a later version: all except the appended components, which the type doesn't know
-- (X.680, clauses 7 and 25).
use Rattle.std.specs.Prelude.{ℕ, suc, ◌+◌, List, [], ◌∷◌, Some, None, length, slice_get, get_or}
use Rattle.asn_base.specs.Abstract.{AbstractValue}
use Rattle.asn_base.specs.Abstract.{fields, list, alternative, Row, end, absent, present}
use Rattle.asn_base.specs.Types.{Resolved}
use Rattle.asn_base.specs.Schemas.{types_in}

-- the types of the members of type t, by their places: of components, of alternatives over both lists, or of the
-- elements
abbrev pub members_of : List Resolved → ℕ → List ℕ
members_of s t = elim (slice_get s t) [ None ↦ [] | Some r ↦ types_in r.kind ]

-- the type of the member at a place; if there is no such member, a number that no type has
abbrev pub member_of : List Resolved → ℕ → ℕ → ℕ
member_of s t i = get_or (members_of s t) i (length s)

abbrev mutual
  -- what type t keeps of a value
  pub projected : List Resolved → ℕ → AbstractValue → AbstractValue
  projected s t (fields vs) = fields (projected_row s (members_of s t) vs)
  projected s t (list vs) = list (projected_elements s (member_of s t 0) vs)
  projected s t (alternative i v) = alternative i (projected s (member_of s t i) v)
  projected s t v = v

  -- the row that is kept of components, whose known ones have these types; the components after these are left out
  pub projected_row : List Resolved → List ℕ → Row → Row
  projected_row s us end = end
  projected_row s [] (absent vs) = end
  projected_row s [] (present v vs) = end
  projected_row s (u ∷ us) (absent vs) = absent (projected_row s us vs)
  projected_row s (u ∷ us) (present v vs) = present (projected s u v) (projected_row s us vs)

  pub projected_elements : List Resolved → ℕ → Row → Row
  projected_elements s u end = end
  projected_elements s u (absent vs) = absent (projected_elements s u vs)
  projected_elements s u (present v vs) = present (projected s u v) (projected_elements s u vs)

abbrev mutual
  -- the number of present components of a value that type t leaves out; what is in them isn't counted
  pub left_out : List Resolved → ℕ → AbstractValue → ℕ
  left_out s t (fields vs) = left_out_of_row s (members_of s t) vs
  left_out s t (list vs) = left_out_of_elements s (member_of s t 0) vs
  left_out s t (alternative i v) = left_out s (member_of s t i) v
  left_out s t v = 0

  pub left_out_of_row : List Resolved → List ℕ → Row → ℕ
  left_out_of_row s us end = 0
  left_out_of_row s [] (absent vs) = left_out_of_row s [] vs
  left_out_of_row s [] (present v vs) = suc (left_out_of_row s [] vs)
  left_out_of_row s (u ∷ us) (absent vs) = left_out_of_row s us vs
  left_out_of_row s (u ∷ us) (present v vs) = left_out s u v + left_out_of_row s us vs

  pub left_out_of_elements : List Resolved → ℕ → Row → ℕ
  left_out_of_elements s u end = 0
  left_out_of_elements s u (absent vs) = left_out_of_elements s u vs
  left_out_of_elements s u (present v vs) = left_out s u v + left_out_of_elements s u vs
