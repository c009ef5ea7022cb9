-- What a value of an earlier version is under a later type: the same, with the components that were appended absent
-- (X.680, clauses 7 and 25).
use Rattle.std.specs.Prelude.{ℕ, List, [], ◌∷◌}
use Rattle.asn_base.specs.Abstract.{AbstractValue, fields, list, alternative, Row, end, absent, present}
use Rattle.asn_base.specs.Types.{Resolved}
use Rattle.later_versions.specs.Projected.{members_of, member_of}

-- an absent component for each of these types
abbrev pub all_absent : List ℕ → Row
all_absent [] = end
all_absent (u ∷ us) = absent (all_absent us)

abbrev mutual
  -- what a value of an earlier version is under type t
  pub lifted : List Resolved → ℕ → AbstractValue → AbstractValue
  lifted s t (fields vs) = fields (lifted_row s (members_of s t) vs)
  lifted s t (list vs) = list (lifted_elements s (member_of s t 0) vs)
  lifted s t (alternative i v) = alternative i (lifted s (member_of s t i) v)
  lifted s t v = v

  -- what components are under these types; the types after the last component are those of components that were
  -- appended
  pub lifted_row : List Resolved → List ℕ → Row → Row
  lifted_row s us end = all_absent us
  lifted_row s [] (absent vs) = end
  lifted_row s [] (present v vs) = end
  lifted_row s (u ∷ us) (absent vs) = absent (lifted_row s us vs)
  lifted_row s (u ∷ us) (present v vs) = present (lifted s u v) (lifted_row s us vs)

  pub lifted_elements : List Resolved → ℕ → Row → Row
  lifted_elements s u end = end
  lifted_elements s u (absent vs) = absent (lifted_elements s u vs)
  lifted_elements s u (present v vs) = present (lifted s u v) (lifted_elements s u vs)
