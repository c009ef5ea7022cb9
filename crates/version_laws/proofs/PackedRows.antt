-- Worked rows of how many additions a type leaves out in packed encodings, also one that must not hold.
use Rattle.std.proofs.Common.{arith, ◌≡◌, ℕ, true, false, List, [], ◌∷◌, refl}
use Rattle.std.specs.Prelude.{None, Some}
use Rattle.asn_base.specs.Abstract.{AbstractValue, boolean, fields, list, alternative, end, absent, present}
use Rattle.asn_base.specs.Types.{any_size, Kind, a_boolean, a_sequence, a_sequence_of, a_choice, Presence, mandatory, addition, Component, Resolved}
use Rattle.later_versions.specs.Projected.{left_out}
use Rattle.version_laws.specs.LeftOut.{left_out_packed}

abbrev of_kind : Kind → Resolved
of_kind k = record { tags = []; kind = k }

abbrev component : ℕ → Presence → Component
component t p = record { name = []; type = t; presence = p }

-- an addition by itself, and one in the version brackets with a number
abbrev alone : ℕ → Component
alone t = component t (addition false None)

abbrev of_group : ℕ → ℕ → Component
of_group g t = component t (addition true (Some g))

-- a BOOLEAN and a SEQUENCE {BOOLEAN, ...}, a SEQUENCE {BOOLEAN, ..., BOOLEAN}, a SEQUENCE OF the first of them, a
-- CHOICE {BOOLEAN, that SEQUENCE}, and a SEQUENCE {that SEQUENCE, ...}
abbrev earlier : List Resolved
earlier =
    of_kind a_boolean
    ∷ of_kind (a_sequence true (component 0 mandatory ∷ []))
    ∷ of_kind (a_sequence true (component 0 mandatory ∷ alone 0 ∷ []))
    ∷ of_kind (a_sequence_of any_size 1)
    ∷ of_kind (a_choice (record { name = []; type = 0 } ∷ record { name = []; type = 1 } ∷ []) false [])
    ∷ of_kind (a_sequence true (component 1 mandatory ∷ []))
    ∷ []

-- A BOOLEAN, a SEQUENCE {BOOLEAN, ..., BOOLEAN, BOOLEAN}, a SEQUENCE {BOOLEAN, ..., [[BOOLEAN, BOOLEAN]]}, and one with
-- an addition between two groups. A SEQUENCE OF the second of them, a CHOICE {BOOLEAN, that SEQUENCE}, and a SEQUENCE
-- {that SEQUENCE, ..., that SEQUENCE}.
abbrev later : List Resolved
later =
    of_kind a_boolean
    ∷ of_kind (a_sequence true (component 0 mandatory ∷ alone 0 ∷ alone 0 ∷ []))
    ∷ of_kind (a_sequence true (component 0 mandatory ∷ of_group 0 0 ∷ of_group 0 0 ∷ []))
    ∷ of_kind (a_sequence true (component 0 mandatory ∷ of_group 0 0 ∷ of_group 0 0 ∷ alone 0 ∷ of_group 1 0 ∷ []))
    ∷ of_kind (a_sequence_of any_size 2)
    ∷ of_kind (a_choice (record { name = []; type = 0 } ∷ record { name = []; type = 2 } ∷ []) false [])
    ∷ of_kind (a_sequence true (component 2 mandatory ∷ component 2 (addition false None) ∷ []))
    ∷ []

abbrev yes : AbstractValue
yes = boolean true

-- three components that are present, and one with the last two absent
abbrev three : AbstractValue
three = fields (present yes (present yes (present yes end)))

abbrev one : AbstractValue
one = fields (present yes (absent (absent end)))

-- ---- components

one_by_one : left_out_packed earlier 1 later 1 three ≡ 2
one_by_one = refl

only_those_that_were_appended : left_out_packed earlier 2 later 1 three ≡ 1
only_those_that_were_appended = refl

absent_ones_are_none : left_out_packed earlier 1 later 1 one ≡ 0
absent_ones_are_none = refl

-- ---- version brackets

brackets_are_one : left_out_packed earlier 1 later 2 three ≡ 1
brackets_are_one = refl

not_each_component : left_out_packed earlier 1 later 2 three ≡ left_out earlier 1 three → ⊥
not_each_component e = let h : 1 ≡ 2 = e in omega (arith, h)

with_one_of_two : left_out_packed earlier 1 later 2 (fields (present yes (absent (present yes end)))) ≡ 1
with_one_of_two = refl

with_the_first_of_two : left_out_packed earlier 1 later 2 (fields (present yes (present yes (absent end)))) ≡ 1
with_the_first_of_two = refl

empty_brackets_are_none : left_out_packed earlier 1 later 2 one ≡ 0
empty_brackets_are_none = refl

each_of_three : left_out_packed earlier 1 later 3 (fields (present yes (present yes (present yes (present yes (present yes end)))))) ≡ 3
each_of_three = refl

two_of_three : left_out_packed earlier 1 later 3 (fields (present yes (present yes (present yes (absent (present yes end)))))) ≡ 2
two_of_three = refl

-- ---- at any depth

in_each_element : left_out_packed earlier 3 later 4 (list (present three (present one (present three end)))) ≡ 2
in_each_element = refl

in_an_alternative : left_out_packed earlier 4 later 5 (alternative 1 three) ≡ 1
in_an_alternative = refl

in_no_other_alternative : left_out_packed earlier 4 later 5 (alternative 0 yes) ≡ 0
in_no_other_alternative = refl

in_a_known_component : left_out_packed earlier 5 later 6 (fields (present three (absent end))) ≡ 1
in_a_known_component = refl

-- what is in an addition that the type lacks isn't counted
not_in_an_unknown_one : left_out_packed earlier 5 later 6 (fields (present one (present three end))) ≡ 1
not_in_an_unknown_one = refl

both : left_out_packed earlier 5 later 6 (fields (present three (present three end))) ≡ 2
both = refl
