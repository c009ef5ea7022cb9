-- How many additions of a value a type lacks in packed encodings, where the components in version brackets are one
-- addition (X.680, clause 25; X.691, clause 19.9).
use Rattle.std.specs.Prelude.{ℕ, suc, ◌+◌, if◌then◌else◌, List, [], ◌∷◌, Some, None, slice_get}
use Rattle.asn_base.specs.Abstract.{AbstractValue, fields, list, alternative, Row, end, absent, present}
use Rattle.asn_base.specs.Types.{TypeNumber, Component, Resolved}
use Rattle.asn_base.specs.Schemas.{components}
use Rattle.later_versions.specs.Projected.{members_of, member_of}
use Rattle.packed_encodings.specs.Orders.{Member, missing, standing, any_present, Addition, alone, bracketed, additions}

-- the components of type t, none if it is no SEQUENCE or SET
abbrev pub components_of : List Resolved → TypeNumber → List Component
components_of s t = elim (slice_get s t) [ None ↦ [] | Some r ↦ components r.kind ]

-- the components, in order of definition, each with the value that it has in the row
abbrev pub members_in : List Component → Row → List (Member AbstractValue)
members_in (c ∷ cs) (absent vs) = missing c ∷ members_in cs vs
members_in (c ∷ cs) (present v vs) = standing c v ∷ members_in cs vs
members_in cs vs = []

-- How many of the additions are present. Those in version brackets are one addition, which is present if one of its
-- components is (X.691, clause 19.9).
abbrev pub present_additions : List (Addition AbstractValue) → ℕ
present_additions [] = 0
present_additions (alone (missing c) ∷ ds) = present_additions ds
present_additions (alone (standing c v) ∷ ds) = suc (present_additions ds)
present_additions (bracketed ms ∷ ds) = if any_present ms then suc (present_additions ds) else present_additions ds

abbrev mutual
  -- The number of present additions that type t of schema s leaves out of a value of type t' of schema s', its later
  -- version. What is in them isn't counted.
  pub left_out_packed : List Resolved → TypeNumber → List Resolved → TypeNumber → AbstractValue → ℕ
  left_out_packed s t s' t' (fields vs) = left_out_of_components s (members_of s t) s' (components_of s' t') vs
  left_out_packed s t s' t' (list vs) = left_out_of_items s (member_of s t 0) s' (member_of s' t' 0) vs
  left_out_packed s t s' t' (alternative i v) = left_out_packed s (member_of s t i) s' (member_of s' t' i) v
  left_out_packed s t s' t' v = 0

  -- the same of the row of these components, of which the earlier version has the first ones, with these types
  pub left_out_of_components : List Resolved → List TypeNumber → List Resolved → List Component → Row → ℕ
  left_out_of_components s [] s' ds vs = present_additions (additions (members_in ds vs))
  left_out_of_components s (u ∷ us) s' (d ∷ ds) (absent vs) = left_out_of_components s us s' ds vs
  left_out_of_components s (u ∷ us) s' (d ∷ ds) (present v vs) =
      left_out_packed s u s' d.type v + left_out_of_components s us s' ds vs
  left_out_of_components s us s' ds vs = 0

  -- the same of the elements of a list
  pub left_out_of_items : List Resolved → TypeNumber → List Resolved → TypeNumber → Row → ℕ
  left_out_of_items s u s' u' end = 0
  left_out_of_items s u s' u' (absent vs) = left_out_of_items s u s' u' vs
  left_out_of_items s u s' u' (present v vs) = left_out_packed s u s' u' v + left_out_of_items s u s' u' vs
