-- Worked rows: what a value of an earlier version is under a later type. For each row that holds there are others that
-- must not hold.
use Rattle.std.proofs.Common.{arith, lit<, ◌≡◌, ℕ, ◌<◌, pos, true, false, List, [], ◌∷◌, refl, ap}
use Rattle.std.specs.Prelude.{None}
use Rattle.asn_base.specs.declared.tag.Class.TheVariants.{Universal}
use Rattle.asn_base.specs.declared.tag.Tag.{Tag}
use Rattle.asn_base.specs.Abstract.{AbstractValue, boolean, integer, fields, list, alternative, Row, end, absent, present}
use Rattle.asn_base.specs.Types.{any_number, any_size, a_boolean, an_integer, a_sequence, a_set, a_sequence_of, a_choice, Presence, mandatory, optional, addition, Component, Resolved}
use Rattle.asn_base.specs.Typed.{members}
use Rattle.later_versions.specs.Projected.{projected, left_out}
use Rattle.version_laws.specs.Lifted.{all_absent, lifted}

abbrev universal : (n : ℕ) → n < 2147483648 → 0 < n → Tag
universal n h k = record { class = Universal; number = n; in_range = h; not_reserved = λ e. k }

abbrev component : ℕ → Presence → Component
component t p = record { name = []; type = t; presence = p }

-- The types are a BOOLEAN, an INTEGER, a SEQUENCE {BOOLEAN, ..., INTEGER}, and a SEQUENCE OF it. Then come a CHOICE
-- {BOOLEAN, ..., that SEQUENCE} and a SET {that SEQUENCE OPTIONAL, ..., the SEQUENCE OF, the CHOICE}.
abbrev later : List Resolved
later =
    record { tags = universal 1 (lit< tt) (lit< tt) ∷ []; kind = a_boolean }
    ∷ record { tags = universal 2 (lit< tt) (lit< tt) ∷ []; kind = an_integer any_number }
    ∷ record {
      tags = universal 16 (lit< tt) (lit< tt) ∷ [];
      kind = a_sequence true (component 0 mandatory ∷ component 1 (addition false None) ∷ []);
    }
    ∷ record { tags = universal 16 (lit< tt) (lit< tt) ∷ []; kind = a_sequence_of any_size 2 }
    ∷ record {
      tags = [];
      kind = a_choice (record { name = []; type = 0 } ∷ []) true (record { name = []; type = 2 } ∷ []);
    }
    ∷ record {
      tags = universal 17 (lit< tt) (lit< tt) ∷ [];
      kind = a_set true (component 2 optional ∷ component 3 (addition false None) ∷ component 4 (addition true None) ∷ []);
    }
    ∷ []

abbrev yes : AbstractValue
yes = boolean true

-- {TRUE} of the SEQUENCE before it had an addition, and with the addition absent
abbrev before : AbstractValue
before = fields (present yes end)

abbrev components_after : AbstractValue
components_after = fields (present yes (absent end))

-- how many members a value has, absent ones too, and how many its first one has
abbrev many : AbstractValue → ℕ
many (fields vs) = members vs
many (list vs) = members vs
many (alternative i (fields vs)) = members vs
many v = 0

abbrev first_of : Row → AbstractValue
first_of end = yes
first_of (absent vs) = yes
first_of (present v vs) = v

abbrev first : AbstractValue → AbstractValue
first (fields vs) = first_of vs
first (list vs) = first_of vs
first v = yes

-- ---- what holds no others

number_stays : lifted later 1 (integer (pos 5)) ≡ integer (pos 5)
number_stays = refl

-- ---- components

addition_is_absent : lifted later 2 before ≡ components_after
addition_is_absent = refl

not_as_it_was : lifted later 2 before ≡ before → ⊥
not_as_it_was e = let h : 2 ≡ 1 = ap many e in omega (arith, h)

not_present : lifted later 2 before ≡ fields (present yes (present (integer (pos 0)) end)) → ⊥
not_present e = let h : 1 ≡ 2 = ap (λ v. count v) e in omega (arith, h)
  where
    count : AbstractValue → ℕ
    count (fields (present v (absent vs))) = 1
    count v = 2

addition_that_is_known_stays : lifted later 2 (fields (present yes (present (integer (pos 7)) end))) ≡ fields (present yes (present (integer (pos 7)) end))
addition_that_is_known_stays = refl

absent_ones_stay : lifted later 5 (fields (absent end)) ≡ fields (absent (absent (absent end)))
absent_ones_stay = refl

-- one for each that was appended
not_one_of_two : lifted later 5 (fields (absent end)) ≡ fields (absent (absent end)) → ⊥
not_one_of_two e = let h : 3 ≡ 2 = ap many e in omega (arith, h)

none_of_no_types : all_absent [] ≡ end
none_of_no_types = refl

-- a row that is too long isn't one of an earlier version: what has no type goes
too_long : lifted later 2 (fields (present yes (absent (present yes end)))) ≡ components_after
too_long = refl

too_long_and_absent : lifted later 2 (fields (present yes (absent (absent end)))) ≡ components_after
too_long_and_absent = refl

-- ---- at any depth

within_a_component : lifted later 5 (fields (present before end)) ≡ fields (present components_after (absent (absent end)))
within_a_component = refl

not_at_the_top_alone : lifted later 5 (fields (present before end)) ≡ fields (present before (absent (absent end))) → ⊥
not_at_the_top_alone e = let h : 2 ≡ 1 = ap (λ v. many (first v)) e in omega (arith, h)

within_elements : lifted later 3 (list (present before (present before end))) ≡ list (present components_after (present components_after end))
within_elements = refl

not_the_list : lifted later 3 (list (present before end)) ≡ list (present components_after (absent end)) → ⊥
not_the_list e = let h : 1 ≡ 2 = ap many e in omega (arith, h)

not_elements_as_they_were : lifted later 3 (list (present before end)) ≡ list (present before end) → ⊥
not_elements_as_they_were e = let h : 2 ≡ 1 = ap (λ v. many (first v)) e in omega (arith, h)

no_elements : lifted later 3 (list end) ≡ list end
no_elements = refl

absent_elements_stay : lifted later 3 (list (absent end)) ≡ list (absent end)
absent_elements_stay = refl

within_an_alternative : lifted later 4 (alternative 1 before) ≡ alternative 1 components_after
within_an_alternative = refl

not_of_the_first_alternative : lifted later 4 (alternative 1 before) ≡ alternative 1 before → ⊥
not_of_the_first_alternative e = let h : 2 ≡ 1 = ap many e in omega (arith, h)

another_alternative_stays : lifted later 4 (alternative 0 yes) ≡ alternative 0 yes
another_alternative_stays = refl

-- ---- back

-- the types of before: the SEQUENCE had the BOOLEAN alone
abbrev earlier : List Resolved
earlier =
    record { tags = universal 1 (lit< tt) (lit< tt) ∷ []; kind = a_boolean }
    ∷ record { tags = universal 16 (lit< tt) (lit< tt) ∷ []; kind = a_sequence true (component 0 mandatory ∷ []) }
    ∷ []

kept_of_it : projected earlier 1 (lifted later 2 before) ≡ before
kept_of_it = refl

none_left_out : left_out earlier 1 (lifted later 2 before) ≡ 0
none_left_out = refl

-- so the type has to be one of the schema: nothing is known of one that isn't
no_such_type : lifted later 6 before ≡ fields end
no_such_type = refl
