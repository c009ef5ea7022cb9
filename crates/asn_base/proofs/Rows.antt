-- Worked rows: which values are values of a type, which aren't, and which are alike.
use Rattle.std.proofs.Common.{arith, lit<, ◌≡◌, ℕ, suc, ⊎_elim, inl, inr, true, false, List, [], ◌∷◌, length, refl, sym, ap, subst, ◌∙◌}
use Rattle.std.specs.Prelude.{ℤ, pos, negsuc, Some, None, chars}
use Rattle.std.proofs.lemmas.Int.{ints}
use Rattle.std.proofs.lemmas.Str.{chars-encodes}
use Rattle.std.proofs.Math.Utf8.{encode}
use Rattle.std.specs.Int.Digits.{AllBelowBase}
use Rattle.asn_base.specs.declared.tag.Class.TheVariants.{Universal}
use Rattle.asn_base.specs.declared.tag.Tag.{Tag}
use Rattle.asn_base.specs.Abstract.{AbstractValue, boolean, integer, octets, text, null, oid, fields, list, alternative, end, absent, present}
use Rattle.asn_base.specs.Names.{IsMember, is_first, is_later}
use Rattle.asn_base.specs.Types.{Bounds, Constraint, Presence, mandatory, optional, default, addition, Component, Kind, a_boolean, an_integer, an_octet_string, an_object_identifier, a_utf8_string, a_sequence, a_sequence_of, a_choice, Resolved}
use Rattle.asn_base.specs.Typed.{IsWithinLimit, IsAllowed, HasNumber, IsObjectIdentifier, arcs, IsPrimitive, fits_boolean, fits_integer, fits_octets, fits_oid, fits_utf8, ValueIn, value_in, of_leaf, of_sequence, of_sequence_of, of_choice, ValueOf, members, one_element, MayBeAbsent, where_optional, where_default, where_addition, no_component, component_absent, component_present, no_element, nodes}
use Rattle.asn_base.specs.Same.{Alike, alike, AlikeBy, alike_sequence, alike_sequence_of, alike_choice, equal, no_components, both_absent, first_default, no_elements, alike_element}
use Rattle.asn_base.proofs.Sameness.{by_at}
use Rattle.asn_base.specs.proving.OneKind.{same_kind}
use Rattle.asn_base.proofs.NoGroups.{no_groups}

abbrev tag : Tag
tag = record { class = Universal; number = 2; in_range = lit< tt; not_reserved = λ e. lit< tt }

abbrev pub bounds : Bounds
bounds = record { least = Some (pos 0); greatest = Some (pos 7); extensible = false }

-- (0..7), and (0..7, ...), which allows every number
abbrev pub to_7 : Constraint
to_7 = record { allowed = Some (record { least = Some (pos 0); greatest = Some (pos 7) } ∷ []); visible = bounds }

abbrev free : Constraint
free = record { allowed = None; visible = bounds }

-- (SIZE (1..MAX))
abbrev some : Constraint
some = record { allowed = Some (record { least = Some (pos 1); greatest = None } ∷ []); visible = bounds }

abbrev pub row : Kind → Resolved
row k = record { tags = tag ∷ []; kind = k }

abbrev part : ℕ → Presence → Component
part t p = record { name = []; type = t; presence = p }

abbrev s : List Resolved
s = row (an_integer to_7)  -- 0
    ∷ row (an_integer free)  -- 1
    ∷ row (a_sequence false (part 1 mandatory ∷ []))  -- 2
    ∷ row (a_sequence true (part 1 optional ∷ part 1 (addition false None) ∷ []))  -- 3
    ∷ row (a_sequence false (part 1 (default (integer (pos 5))) ∷ []))  -- 4
    ∷ row (a_sequence_of free 1)  -- 5
    ∷ row (a_sequence_of some 1)  -- 6
    ∷ row (a_choice (record { name = []; type = 0 } ∷ []) true (record { name = []; type = 1 } ∷ []))  -- 7
    ∷ []

-- the limits of INTEGER
least_number : IsWithinLimit (negsuc 170141183460469231731687303715884105727)
least_number = lit< tt

past_the_greatest : IsWithinLimit (pos 170141183460469231731687303715884105728) → ⊥
past_the_greatest h = omega arith

past_the_least : IsWithinLimit (negsuc 170141183460469231731687303715884105728) → ⊥
past_the_least h = omega arith

-- constraints
five_allowed : IsAllowed to_7 (pos 5)
five_allowed = inl (omega (arith, ints), omega (arith, ints))

nine_not_allowed : IsAllowed to_7 (pos 9) → ⊥
nine_not_allowed h = ⊎_elim (λ a. let b = a.1 in omega (arith, ints)) (λ b. b) h

nine_allowed : IsAllowed free (pos 9)
nine_allowed = tt

-- items
item_2 : HasNumber (record { name = []; number = pos 0 } ∷ record { name = []; number = pos 2 } ∷ []) (pos 2)
item_2 = inr (inl refl)

no_item_1 : HasNumber (record { name = []; number = pos 0 } ∷ record { name = []; number = pos 2 } ∷ []) (pos 1) → ⊥
no_item_1 h = ⊎_elim (λ e. omega (arith, ints)) (λ h. ⊎_elim (λ e. omega (arith, ints)) (λ b. b) h) h

-- object identifiers: {2 999 3} is one, {1 40} and {2} are none
an_oid : IsObjectIdentifier (2 ∷ 999 ∷ 3 ∷ [])
an_oid = arcs (lit< tt) (λ h. absurd (omega arith)) (lit< tt) (lit< tt, tt) (lit< tt)

abbrev first_of : List ℕ → ℕ
first_of [] = 0
first_of (x ∷ xs) = x

abbrev second_of : List ℕ → ℕ
second_of (x ∷ y ∷ ys) = y
second_of xs = 0

second_arc : {ns : List ℕ} → IsObjectIdentifier ns → ns ≡ 1 ∷ 40 ∷ [] → ⊥
second_arc (arcs a b c d f) e = let x = ap first_of e in let y = ap second_of e in let h = b (omega arith) in omega arith

one_arc : {ns : List ℕ} → IsObjectIdentifier ns → ns ≡ 2 ∷ [] → ⊥
one_arc (arcs a b c d f) e = let l = ap length e in omega arith

-- octets are below 256; a size of UTF8String is in characters; characters are those of the alphabet
no_octet : IsPrimitive (an_octet_string free) (octets (256 ∷ [])) → ⊥
no_octet f = by f refl
  where
    octet_of : AbstractValue → List ℕ
    octet_of (octets o) = o
    octet_of v = []

    by : {v : AbstractValue} → IsPrimitive (an_octet_string free) v → v ≡ octets (256 ∷ []) → ⊥
    by (fits_octets {o = o} b a) e = let h = (subst (AllBelowBase 256) (ap octet_of e) b).0 in omega arith

one_character : length (chars (195 ∷ 169 ∷ [])) ≡ 1
unfolding encode
one_character = ap length (chars-encodes (233 ∷ []) refl)

end_of : {x : ℕ} {xs : List ℕ} → IsMember x xs → xs ≡ [] → ⊥
end_of is_first e = let l = ap length e in omega arith
end_of (is_later m) e = let l = ap length e in omega arith

abbrev drop_two : List ℕ → List ℕ
drop_two (x ∷ y ∷ ys) = ys
drop_two ys = ys

not_in_alphabet : {x : ℕ} {xs : List ℕ} → IsMember x xs → x ≡ 49 → xs ≡ 48 ∷ 57 ∷ [] → ⊥
not_in_alphabet is_first e f = let h = ap first_of f in omega arith
not_in_alphabet (is_later is_first) e f = let h = ap second_of f in omega arith
not_in_alphabet (is_later (is_later m)) e f = end_of m (ap drop_two f)

-- a component that must be present; optional ones and additions may be absent
five : {n : ℕ} → ValueIn s (suc n) 1 (integer (pos 5))
five = value_in (record { found = refl }) (of_leaf (fits_integer (lit< tt) tt))

with_it : ValueIn s 2 2 (fields (present (integer (pos 5)) end))
with_it = value_in (record { found = refl }) (of_sequence (component_present five no_component) (no_groups (part 1 mandatory ∷ []) (present (integer (pos 5)) end) (refl, tt)))

all_absent : ValueIn s 1 3 (fields (absent (absent end)))
all_absent = value_in (record { found = refl }) (of_sequence (component_absent where_optional (component_absent where_addition no_component)) (no_groups (part 1 optional ∷ part 1 (addition false None) ∷ []) (absent (absent end)) (refl, (refl, tt))))

must_stand : {n t : ℕ} {p : Presence} → MayBeAbsent s n t p → p ≡ mandatory → ⊥
must_stand where_optional e = cc
must_stand (where_default d) e = cc
must_stand where_addition e = cc

-- an absent component counts with the levels of its DEFAULT, and with no nodes
default_absent : ValueIn s 2 4 (fields (absent end))
default_absent = value_in (record { found = refl }) (of_sequence (component_absent (where_default five) no_component) (no_groups (part 1 (default (integer (pos 5))) ∷ []) (absent end) (refl, tt)))

default_has_levels : {n t : ℕ} {p : Presence} {d : AbstractValue} → MayBeAbsent s n t p → p ≡ default d → n ≡ 0 → ⊥
default_has_levels where_optional e z = cc
default_has_levels (where_default (value_in i a)) e z = omega arith
default_has_levels where_addition e z = cc

four_nodes : nodes (list (present (alternative 0 null) (present null end))) ≡ 4
four_nodes = refl

absent_no_node : nodes (fields (absent (present null end))) ≡ 2
absent_no_node = refl

-- a list without elements has one level
empty_list : ValueIn s 1 5 (list end)
empty_list = value_in (record { found = refl }) (of_sequence_of no_element tt)

no_level : {n t : ℕ} {v : AbstractValue} → ValueIn s n t v → n ≡ 0 → ⊥
no_level (value_in i a) e = omega arith

-- the order of a SEQUENCE OF matters
in_order : {v w : AbstractValue} → AlikeBy s (an_integer free) v w → v ≡ w
in_order (equal l) = refl

abbrev number_of : AbstractValue → ℤ
number_of (integer z) = z
number_of v = pos 0

one_not_two : Alike s 1 (integer (pos 1)) (integer (pos 2)) → ⊥
one_not_two a = by a refl refl
  where
    by : {v w : AbstractValue} → Alike s 1 v w → v ≡ integer (pos 1) → w ≡ integer (pos 2) → ⊥
    by (alike {v = v} {w = w} i a) e f =
        let h : pos 1 ≡ pos 2 = ap number_of (sym e ∙ in_order (by_at (same_kind (record { found = refl }) i) a) ∙ f) in omega (arith, ints)

-- sizes of lists
list_of_one : ValueIn s 2 6 (list (present (integer (pos 5)) end))
list_of_one = value_in (record { found = refl }) (of_sequence_of (one_element five no_element) (inl (omega (arith, ints), tt)))

none_listed : {n : ℕ} {v : AbstractValue} → ValueOf s n (a_sequence_of some 1) v → v ≡ list end → ⊥
none_listed (of_leaf f) e = elim f [ ]
none_listed (of_sequence_of {vs = vs} es a) e =
    let z : members vs ≡ 0 = ap size_in e in
    ⊎_elim (λ h. let l = h.0 in omega (arith, ints)) (λ b. b) a
  where
    size_in : AbstractValue → ℕ
    size_in (list vs) = members vs
    size_in v = 1

value_at : {n : ℕ} {k k' : Kind} {v : AbstractValue} → k' ≡ k → ValueOf s n k' v → ValueOf s n k v
value_at {n} {v = v} e a = subst (λ q. ValueOf s n q v) e a

list_of_none : {n : ℕ} → ValueIn s n 6 (list end) → ⊥
list_of_none a = by a refl
  where
    by : {n : ℕ} {v : AbstractValue} → ValueIn s n 6 v → v ≡ list end → ⊥
    by (value_in i a) e = none_listed (value_at (same_kind (record { found = refl }) i) a) e

-- an alternative after the marker, and one that the type lacks
new_alternative : ValueIn s 2 7 (alternative 1 (integer (pos 5)))
new_alternative = value_in (record { found = refl }) (of_choice refl five)

-- two values of an alternative are alike, of two alternatives not
alternatives_alike : Alike s 7 (alternative 1 (integer (pos 5))) (alternative 1 (integer (pos 5)))
alternatives_alike = alike (record { found = refl }) (alike_choice refl (alike (record { found = refl }) (equal tt)))

-- {1, 2} of a SEQUENCE OF is alike itself, and {} of SEQUENCE {a INTEGER DEFAULT 5} alike {a 5}
list_alike : Alike s 5 (list (present (integer (pos 1)) (present (integer (pos 2)) end))) (list (present (integer (pos 1)) (present (integer (pos 2)) end)))
list_alike = alike (record { found = refl }) (alike_sequence_of (alike_element (alike (record { found = refl }) (equal tt)) (alike_element (alike (record { found = refl }) (equal tt)) no_elements)))

default_alike : Alike s 4 (fields (absent end)) (fields (present (integer (pos 5)) end))
default_alike = alike (record { found = refl }) (alike_sequence (first_default refl (alike (record { found = refl }) (equal tt)) no_components))

absent_alike : Alike s 3 (fields (absent (absent end))) (fields (absent (absent end)))
absent_alike = alike (record { found = refl }) (alike_sequence (both_absent (both_absent no_components)))

-- values of kinds that hold no others
a_truth : IsPrimitive a_boolean (boolean true)
a_truth = fits_boolean

an_identifier : IsPrimitive an_object_identifier (oid (2 ∷ 999 ∷ 3 ∷ []))
an_identifier = fits_oid an_oid

-- U+00E9 has one character
a_letter : IsPrimitive (a_utf8_string to_7) (text (195 ∷ 169 ∷ []))
unfolding encode
a_letter = fits_utf8 (233 ∷ [], (refl, refl)) (inl (omega (arith, ints), omega (arith, ints, one_character)))
