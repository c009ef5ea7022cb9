-- Worked rows: accounts of encodings, and accounts of none.
use Rattle.std.proofs.Common.{arith, lit<, ◌≡◌, ℕ, zero, suc, ◌+◌, true, false, List, [], ◌∷◌, length, refl, sym, ap, subst, ◌∙◌}
use Rattle.std.specs.Prelude.{pos, negsuc, Some, slice_get}
use Rattle.asn_base.specs.Abstract.{AbstractValue, boolean, integer, octets, null, fields, list, alternative, end, absent, present}
use Rattle.asn_base.specs.Types.{any_size, a_set_of, an_octet_string, optional, default, Resolved}
use Rattle.asn_base.specs.Same.{Alike, alike, AlikeBy, AlikeInAnyOrder, equal, alike_set_of, pair, none_left, here, there}
use Rattle.encodings.specs.Header.{identifier}
use Rattle.encodings.specs.Fewest.{shortest_header}
use Rattle.encodings.specs.Strings.{whole}
use Rattle.encodings.specs.Contents.{of_false, of_true, of_integer, of_octets, of_null}
use Rattle.encodings.specs.Account.{Numbers, Account, header, leaf_row, wrap_row, seq_row, seqof_row, set_row, setof_row, no_row, absent_row, default_row, written, HeaderHasNumbers, headed_bare, headed_innermost, headed_outer, ArePlaces, ArePlacedAt, Describes, describes, MembersHaveRows, leaf_listed, sequence_listed, set_listed, sequence_of_listed, set_of_listed, choice_listed, no_member_listed, absent_listed, absent_default_listed, default_listed, member_listed, no_element_listed, element_listed}
use Rattle.encodings.proofs.Headers.{shortest_is}
use Rattle.encodings.proofs.RowTypes.{rows, u1, u2, u4, u5, u16, u17, c0, c1, c2, a_component, one_and_two}
use Rattle.encodings.proofs.RowsThatHold.{small, is_256, is_minus_1, must_stand}
use Rattle.encodings.specs.proving.Placing.{some_or, same_some}
use Rattle.encodings.proofs.Least.{alike_by_at}
use Rattle.asn_base.specs.proving.OneKind.{same_kind}
use Rattle.encodings.proofs.Encodable.{default_in}

-- a header of two octets
abbrev pub two : ℕ → Numbers
two n = record { identifier = 1; size = 1; contents = n }

abbrev pub a_leaf : ℕ → Account
a_leaf n = header (two n) leaf_row

-- ---- places, read off two lists

abbrev EachPlace : ℕ → List ℕ → List ℕ → Type 0
EachPlace b [] q = Unit {0}
EachPlace b (j ∷ p) q = (slice_get q j ≡ Some b) × EachPlace (suc b) p q

each_place : (b : ℕ) (p q : List ℕ) → EachPlace b p q → (i j : ℕ) → slice_get p i ≡ Some j → slice_get q j ≡ Some (b + i)
each_place b [] q e i j f = absurd (cc)
each_place b (k ∷ p) q e zero j f = ap (slice_get q) (sym (ap (some_or k) f)) ∙ e.0 ∙ ap Some (let g : b ≡ b + 0 = omega arith in g)
each_place b (k ∷ p) q e (suc i) j f = each_place (suc b) p q e.1 i j f ∙ ap Some (let g : suc b + i ≡ b + suc i = omega arith in g)

from_0 : (p q : List ℕ) → EachPlace 0 p q → (i j : ℕ) → slice_get p i ≡ Some j → slice_get q j ≡ Some i
from_0 p q e i j f = each_place 0 p q e i j f ∙ ap Some (let g : 0 + i ≡ i = omega arith in g)

abbrev EachPlaced : List ℕ → List (List ℕ) → List (List ℕ) → Type 0
EachPlaced [] xs zs = Unit {0}
EachPlaced (j ∷ p) [] zs = ⊥
EachPlaced (j ∷ p) (x ∷ xs) zs = (slice_get zs j ≡ Some x) × EachPlaced p xs zs

each_placed : (p : List ℕ) (xs zs : List (List ℕ)) → EachPlaced p xs zs → (i j : ℕ) → slice_get p i ≡ Some j → slice_get zs j ≡ slice_get xs i
each_placed [] xs zs e i j f = absurd (cc)
each_placed (k ∷ p) [] zs e i j f = absurd e
each_placed (k ∷ p) (x ∷ xs) zs e zero j f = ap (slice_get zs) (sym (ap (some_or k) f)) ∙ e.0
each_placed (k ∷ p) (x ∷ xs) zs e (suc i) j f = each_placed p xs zs e.1 i j f

stand_at : {p q : List ℕ} {xs zs : List (List ℕ)} → length p ≡ length xs → length q ≡ length xs → length zs ≡ length xs → EachPlace 0 p q → EachPlace 0 q p → EachPlaced p xs zs → ArePlacedAt p q xs zs
stand_at {p} {q} {xs} {zs} l m k e f g = record {
  are_places = record { each_member = l; each_place = m; there = from_0 p q e; back = λ i j. from_0 q p f j i };
  as_many = k;
  each = each_placed p xs zs g;
}

-- ---- accounts of encodings

-- 020101
pub integer_1 : Describes rows 1 (integer (pos 1)) (2 ∷ 1 ∷ 1 ∷ []) (a_leaf 1)
unfolding identifier shortest_header
integer_1 = describes (record { found = refl }) (leaf_listed tt (equal tt) (of_integer (small 1 (lit< tt)))) (headed_innermost (record { is_header = shortest_is u2 false 1 (lit< tt); identifier_counted = refl; size_counted = refl; contents_counted = refl }))

-- 020102
pub integer_2 : Describes rows 1 (integer (pos 2)) (2 ∷ 1 ∷ 2 ∷ []) (a_leaf 1)
unfolding identifier shortest_header
integer_2 = describes (record { found = refl }) (leaf_listed tt (equal tt) (of_integer (small 2 (lit< tt)))) (headed_innermost (record { is_header = shortest_is u2 false 1 (lit< tt); identifier_counted = refl; size_counted = refl; contents_counted = refl }))

-- 02020100
pub integer_256 : Describes rows 1 (integer (pos 256)) (2 ∷ 2 ∷ 1 ∷ 0 ∷ []) (a_leaf 2)
unfolding identifier shortest_header
integer_256 = describes (record { found = refl }) (leaf_listed tt (equal tt) (of_integer is_256)) (headed_innermost (record { is_header = shortest_is u2 false 2 (lit< tt); identifier_counted = refl; size_counted = refl; contents_counted = refl }))

-- 0201FF
pub integer_minus_1 : Describes rows 1 (integer (negsuc 0)) (2 ∷ 1 ∷ 255 ∷ []) (a_leaf 1)
unfolding identifier shortest_header
integer_minus_1 = describes (record { found = refl }) (leaf_listed tt (equal tt) (of_integer is_minus_1)) (headed_innermost (record { is_header = shortest_is u2 false 1 (lit< tt); identifier_counted = refl; size_counted = refl; contents_counted = refl }))

-- SET OF INTEGER {1, 256, -1}: P and Q [0,2,1]
pub set_of_three : Describes rows 7 (list (present (integer (pos 1)) (present (integer (pos 256)) (present (integer (negsuc 0)) end)))) (49 ∷ 10 ∷ 2 ∷ 1 ∷ 1 ∷ 2 ∷ 1 ∷ 255 ∷ 2 ∷ 2 ∷ 1 ∷ 0 ∷ []) (header (two 10) (setof_row (written (a_leaf 1) (written (a_leaf 2) (written (a_leaf 1) no_row))) (0 ∷ 2 ∷ 1 ∷ []) (0 ∷ 2 ∷ 1 ∷ [])))
unfolding identifier shortest_header
set_of_three = describes (record { found = refl })
    (set_of_listed {zs = ((2 ∷ 1 ∷ 1 ∷ []) ∷ (2 ∷ 1 ∷ 255 ∷ []) ∷ (2 ∷ 2 ∷ 1 ∷ 0 ∷ []) ∷ [])} (element_listed integer_1 (element_listed integer_256 (element_listed integer_minus_1 no_element_listed)))
    (stand_at refl refl refl (refl, (refl, (refl, tt))) (refl, (refl, (refl, tt))) (refl, (refl, (refl, tt)))))
    (headed_innermost (record { is_header = shortest_is u17 true 10 (lit< tt); identifier_counted = refl; size_counted = refl; contents_counted = refl }))

-- {256, 1, 2}: P [2,0,1] and Q [1,2,0]
pub set_of_turned : Describes rows 7 (list (present (integer (pos 256)) (present (integer (pos 1)) (present (integer (pos 2)) end)))) (49 ∷ 10 ∷ 2 ∷ 1 ∷ 1 ∷ 2 ∷ 1 ∷ 2 ∷ 2 ∷ 2 ∷ 1 ∷ 0 ∷ []) (header (two 10) (setof_row (written (a_leaf 2) (written (a_leaf 1) (written (a_leaf 1) no_row))) (2 ∷ 0 ∷ 1 ∷ []) (1 ∷ 2 ∷ 0 ∷ [])))
unfolding identifier shortest_header
set_of_turned = describes (record { found = refl })
    (set_of_listed {zs = (2 ∷ 1 ∷ 1 ∷ []) ∷ (2 ∷ 1 ∷ 2 ∷ []) ∷ (2 ∷ 2 ∷ 1 ∷ 0 ∷ []) ∷ []} (element_listed integer_256 (element_listed integer_1 (element_listed integer_2 no_element_listed)))
    (stand_at refl refl refl (refl, (refl, (refl, tt))) (refl, (refl, (refl, tt))) (refl, (refl, (refl, tt)))))
    (headed_innermost (record { is_header = shortest_is u17 true 10 (lit< tt); identifier_counted = refl; size_counted = refl; contents_counted = refl }))

-- the order isn't judged: SET OF INTEGER {2, 1} as 3106020102020101, P and Q [0,1]
pub set_of_any_order : Describes rows 7 (list (present (integer (pos 2)) (present (integer (pos 1)) end))) (49 ∷ 6 ∷ 2 ∷ 1 ∷ 2 ∷ 2 ∷ 1 ∷ 1 ∷ []) (header (two 6) (setof_row (written (a_leaf 1) (written (a_leaf 1) no_row)) (0 ∷ 1 ∷ []) (0 ∷ 1 ∷ [])))
unfolding identifier shortest_header
set_of_any_order = describes (record { found = refl })
    (set_of_listed {zs = ((2 ∷ 1 ∷ 2 ∷ []) ∷ (2 ∷ 1 ∷ 1 ∷ []) ∷ [])} (element_listed integer_2 (element_listed integer_1 no_element_listed))
    (stand_at refl refl refl (refl, (refl, tt)) (refl, (refl, tt)) (refl, (refl, tt))))
    (headed_innermost (record { is_header = shortest_is u17 true 6 (lit< tt); identifier_counted = refl; size_counted = refl; contents_counted = refl }))

-- OCTET STRING, and SET OF it
abbrev strings : List Resolved
strings = record { tags = u4 ∷ []; kind = an_octet_string any_size } ∷ record { tags = u17 ∷ []; kind = a_set_of any_size 0 } ∷ []

string_1 : Describes strings 0 (octets (1 ∷ [])) (4 ∷ 1 ∷ 1 ∷ []) (a_leaf 1)
unfolding identifier shortest_header
string_1 = describes (record { found = refl }) (leaf_listed tt (equal tt) (of_octets (whole (lit< tt, tt)) refl)) (headed_innermost (record { is_header = shortest_is u4 false 1 (lit< tt); identifier_counted = refl; size_counted = refl; contents_counted = refl }))

string_0 : Describes strings 0 (octets []) (4 ∷ 0 ∷ []) (a_leaf 0)
unfolding identifier shortest_header
string_0 = describes (record { found = refl }) (leaf_listed tt (equal tt) (of_octets (whole tt) refl)) (headed_innermost (record { is_header = shortest_is u4 false 0 (lit< tt); identifier_counted = refl; size_counted = refl; contents_counted = refl }))

-- {'01'H, ''H}: 31050400040101, P and Q [1,0]
pub set_of_strings : Describes strings 1 (list (present (octets (1 ∷ [])) (present (octets []) end))) (49 ∷ 5 ∷ 4 ∷ 0 ∷ 4 ∷ 1 ∷ 1 ∷ []) (header (two 5) (setof_row (written (a_leaf 1) (written (a_leaf 0) no_row)) (1 ∷ 0 ∷ []) (1 ∷ 0 ∷ [])))
unfolding identifier shortest_header
set_of_strings = describes (record { found = refl })
    (set_of_listed {zs = ((4 ∷ 0 ∷ []) ∷ (4 ∷ 1 ∷ 1 ∷ []) ∷ [])} (element_listed string_1 (element_listed string_0 no_element_listed))
    (stand_at refl refl refl (refl, (refl, tt)) (refl, (refl, tt)) (refl, (refl, tt))))
    (headed_innermost (record { is_header = shortest_is u17 true 5 (lit< tt); identifier_counted = refl; size_counted = refl; contents_counted = refl }))

abbrev two_and_one : AbstractValue
two_and_one = list (present (integer (pos 2)) (present (integer (pos 1)) end))

same_as_default : Alike rows 7 two_and_one one_and_two
same_as_default = alike (record { found = refl }) (alike_set_of (pair (alike (record { found = refl }) (equal tt)) (pair (alike (record { found = refl }) (equal tt)) none_left here) (there here)))

-- SEQUENCE {a SET OF INTEGER DEFAULT {1, 2}} with {a {2, 1}}: 3000
pub default_in_another_order : Describes rows 8 (fields (present two_and_one end)) (48 ∷ 0 ∷ []) (header (two 0) (seq_row (default_row no_row)))
unfolding identifier shortest_header
default_in_another_order = describes (record { found = refl }) (sequence_listed (default_listed (one_and_two, refl, same_as_default) no_member_listed)) (headed_innermost (record { is_header = shortest_is u16 true 0 (lit< tt); identifier_counted = refl; size_counted = refl; contents_counted = refl }))

-- and with {}
pub default_absent : Describes rows 8 (fields (absent end)) (48 ∷ 0 ∷ []) (header (two 0) (seq_row (default_row no_row)))
unfolding identifier shortest_header
default_absent = describes (record { found = refl }) (sequence_listed (absent_default_listed one_and_two refl no_member_listed)) (headed_innermost (record { is_header = shortest_is u16 true 0 (lit< tt); identifier_counted = refl; size_counted = refl; contents_counted = refl }))

-- SEQUENCE {a [0] INTEGER OPTIONAL, ...} with {}
pub optional_absent : Describes rows 15 (fields (absent end)) (48 ∷ 0 ∷ []) (header (two 0) (seq_row (absent_row no_row)))
unfolding identifier shortest_header
optional_absent = describes (record { found = refl }) (sequence_listed (absent_listed (λ d e. cc) no_member_listed)) (headed_innermost (record { is_header = shortest_is u16 true 0 (lit< tt); identifier_counted = refl; size_counted = refl; contents_counted = refl }))

-- [1] EXPLICIT [2] IMPLICIT BOOLEAN: A1038201FF
pub explicit_round_implicit : Describes rows 12 (boolean true) (161 ∷ 3 ∷ 130 ∷ 1 ∷ 255 ∷ []) (header (two 3) (wrap_row (a_leaf 1)))
unfolding identifier shortest_header
explicit_round_implicit = describes (record { found = refl }) (leaf_listed tt (equal tt) (of_true (lit< tt) (lit< tt) refl)) (headed_outer (headed_innermost (record { is_header = shortest_is c2 false 1 (lit< tt); identifier_counted = refl; size_counted = refl; contents_counted = refl })) (record { is_header = shortest_is c1 true 3 (lit< tt); identifier_counted = refl; size_counted = refl; contents_counted = refl }))

-- 0500
pub a_null : Describes rows 5 null (5 ∷ 0 ∷ []) (a_leaf 0)
unfolding identifier shortest_header
a_null = describes (record { found = refl }) (leaf_listed tt (equal tt) of_null) (headed_innermost (record { is_header = shortest_is u5 false 0 (lit< tt); identifier_counted = refl; size_counted = refl; contents_counted = refl }))

-- 0101FF
pub a_truth : Describes rows 0 (boolean true) (1 ∷ 1 ∷ 255 ∷ []) (a_leaf 1)
unfolding identifier shortest_header
a_truth = describes (record { found = refl }) (leaf_listed tt (equal tt) (of_true (lit< tt) (lit< tt) refl)) (headed_innermost (record { is_header = shortest_is u1 false 1 (lit< tt); identifier_counted = refl; size_counted = refl; contents_counted = refl }))

-- an untagged CHOICE has the row of what it holds
pub untagged_choice : Describes rows 16 (alternative 0 null) (5 ∷ 0 ∷ []) (a_leaf 0)
unfolding identifier shortest_header
untagged_choice = describes (record { found = refl }) (choice_listed refl a_null) headed_bare

-- a tag on a CHOICE is explicit: A0020500
pub tagged_choice : Describes rows 17 (alternative 0 null) (160 ∷ 2 ∷ 5 ∷ 0 ∷ []) (header (two 2) (wrap_row (a_leaf 0)))
unfolding identifier shortest_header
tagged_choice = describes (record { found = refl }) (choice_listed refl a_null) (headed_innermost (record { is_header = shortest_is c0 true 2 (lit< tt); identifier_counted = refl; size_counted = refl; contents_counted = refl }))

-- SEQUENCE OF CHOICE: 300505000101FF
pub list_of_choices : Describes rows 18 (list (present (alternative 0 null) (present (alternative 1 (boolean true)) end))) (48 ∷ 5 ∷ 5 ∷ 0 ∷ 1 ∷ 1 ∷ 255 ∷ []) (header (two 5) (seqof_row (written (a_leaf 0) (written (a_leaf 1) no_row))))
unfolding identifier shortest_header
list_of_choices = describes (record { found = refl })
    (sequence_of_listed (element_listed untagged_choice (element_listed (describes (record { found = refl }) (choice_listed refl a_truth) headed_bare) no_element_listed)))
    (headed_innermost (record { is_header = shortest_is u16 true 5 (lit< tt); identifier_counted = refl; size_counted = refl; contents_counted = refl }))

false_at : Describes rows 10 (boolean false) (128 ∷ 1 ∷ 0 ∷ []) (a_leaf 1)
unfolding identifier shortest_header
false_at = describes (record { found = refl }) (leaf_listed tt (equal tt) of_false) (headed_innermost (record { is_header = shortest_is c0 false 1 (lit< tt); identifier_counted = refl; size_counted = refl; contents_counted = refl }))

true_at : Describes rows 9 (boolean true) (129 ∷ 1 ∷ 255 ∷ []) (a_leaf 1)
unfolding identifier shortest_header
true_at = describes (record { found = refl }) (leaf_listed tt (equal tt) (of_true (lit< tt) (lit< tt) refl)) (headed_innermost (record { is_header = shortest_is c1 false 1 (lit< tt); identifier_counted = refl; size_counted = refl; contents_counted = refl }))

-- SET {a [1] BOOLEAN, b [0] BOOLEAN} with {a TRUE, b FALSE}: 31068001008101FF, P and Q [1,0]
pub set_by_tags : Describes rows 11 (fields (present (boolean true) (present (boolean false) end))) (49 ∷ 6 ∷ 128 ∷ 1 ∷ 0 ∷ 129 ∷ 1 ∷ 255 ∷ []) (header (two 6) (set_row (written (a_leaf 1) (written (a_leaf 1) no_row)) (1 ∷ 0 ∷ []) (1 ∷ 0 ∷ [])))
unfolding identifier shortest_header
set_by_tags = describes (record { found = refl })
    (set_listed {zs = ((128 ∷ 1 ∷ 0 ∷ []) ∷ (129 ∷ 1 ∷ 255 ∷ []) ∷ [])} (member_listed (λ d. must_stand d.0 d.1) true_at (member_listed (λ d. must_stand d.0 d.1) false_at no_member_listed))
    (stand_at refl refl refl (refl, (refl, tt)) (refl, (refl, tt)) (refl, (refl, tt))))
    (headed_innermost (record { is_header = shortest_is u17 true 6 (lit< tt); identifier_counted = refl; size_counted = refl; contents_counted = refl }))

-- ---- accounts of none

-- a component that is the same as its DEFAULT has no row of its own
pub default_written : (xs : List (List ℕ)) (a : Account) → MembersHaveRows rows (a_component 7 (default one_and_two) ∷ []) (present two_and_one end) xs (written a no_row) → ⊥
default_written xs a (member_listed n d ds) = n (one_and_two, refl, same_as_default)

-- an absent component with a DEFAULT has the row `default`
pub default_as_absent : (xs : List (List ℕ)) → MembersHaveRows rows (a_component 7 (default one_and_two) ∷ []) (absent end) xs (absent_row no_row) → ⊥
default_as_absent xs (absent_listed n ds) = n one_and_two refl

-- and an OPTIONAL one has `absent`
pub absent_as_default : (xs : List (List ℕ)) → MembersHaveRows rows (a_component 14 optional ∷ []) (absent end) xs (default_row no_row) → ⊥
absent_as_default xs (absent_default_listed d e ds) = not_default d e
  where
    not_default : (d : AbstractValue) → optional ≡ default d → ⊥
    not_default d e = absurd (cc)

-- {1} isn't {1, 2}
just_one : AlikeInAnyOrder rows 1 (present (integer (pos 1)) end) (present (integer (pos 1)) (present (integer (pos 2)) end)) → ⊥
just_one (pair a none_left i) = elim i [ ]

other_value : Alike rows 7 (list (present (integer (pos 1)) end)) one_and_two → ⊥
other_value (alike i a) = by (alike_by_at (same_kind (record { found = refl }) i) a)
  where
    by : AlikeBy rows (a_set_of any_size 1) (list (present (integer (pos 1)) end)) one_and_two → ⊥
    by (alike_set_of b) = just_one b

pub another_as_default : (xs : List (List ℕ)) → MembersHaveRows rows (a_component 7 (default one_and_two) ∷ []) (present (list (present (integer (pos 1)) end)) end) xs (default_row no_row) → ⊥
another_as_default xs (default_listed d ds) = other_value (subst (Alike rows 7 (list (present (integer (pos 1)) end))) (ap default_in (sym d.1)) d.2)

-- a header of two octets, of which the length has two
pub length_of_two : HeaderHasNumbers u1 false 1 (1 ∷ 1 ∷ []) (record { identifier = 1; size = 2; contents = 1 }) → ⊥
length_of_two h = let e = h.size_counted in omega arith

pub contents_of_two : HeaderHasNumbers u1 false 1 (1 ∷ 1 ∷ []) (two 2) → ⊥
contents_of_two h = let e = h.contents_counted in omega arith

-- places that aren't a permutation
pub twice_at_0 : (n : ℕ) (q : List ℕ) → ArePlaces n (0 ∷ 0 ∷ []) q → ⊥
twice_at_0 n q a = let e = same_some (sym (a.there 0 0 refl) ∙ a.there 1 0 refl) in omega arith

-- an inverse that isn't
pub other_inverse : (n : ℕ) → ArePlaces n (1 ∷ 2 ∷ 0 ∷ []) (1 ∷ 2 ∷ 0 ∷ []) → ⊥
other_inverse n a = let e = same_some (a.there 0 1 refl) in omega arith

-- a place less, and one more
pub too_few_places : ArePlaces 2 (0 ∷ []) (0 ∷ []) → ⊥
too_few_places a = let e = a.each_member in omega arith

pub too_many_places : ArePlaces 1 (0 ∷ []) (0 ∷ 1 ∷ []) → ⊥
too_many_places a = let e = a.each_place in omega arith
