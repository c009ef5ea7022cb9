-- Worked rows of types that hold others.
use Rattle.std.proofs.Common.{arith, lit<, ◌≡◌, true, false, [], ◌∷◌, refl, ap, subst, inl, inr}
use Rattle.std.specs.Prelude.{pos, negsuc}
use Rattle.asn_base.specs.Abstract.{AbstractValue, boolean, integer, null, fields, list, alternative, end, present}
use Rattle.asn_base.specs.Types.{Presence, mandatory, optional, default, addition}
use Rattle.asn_base.specs.Tags.{First}
use Rattle.asn_base.specs.Same.{Alike, alike, equal, alike_set_of, pair, none_left, here, there}
use Rattle.encodings.specs.Rules.{Basic, Unsorted, Distinguished}
use Rattle.encodings.specs.Header.{identifier}
use Rattle.encodings.specs.Fewest.{shortest_header}
use Rattle.encodings.specs.Contents.{of_false, of_true, of_integer}
use Rattle.encodings.specs.Orders.{ascending_one, ascending_more, InTagOrder, permutes_none, permutes_more, here as list_here, there as list_there, merges_none, merges_first}
use Rattle.encodings.specs.Encoding.{bare, innermost, no_unknown, unknown, closed, extensible, EncodesTo, says, leaf, sequence, set, sequence_of, set_of, choice, no_member, member, no_element, element}
use Rattle.encodings.proofs.Headers.{shortest_is}
use Rattle.encodings.proofs.RowTypes.{rows, u2, u16, u17, c0, c1, one_and_two, first_only}
use Rattle.encodings.specs.proving.Weaker.{basic_of, unsorted_of}
use Rattle.encodings.proofs.RowsThatHold.{short_header, small, is_256, is_minus_1, true_is, null_is, must_stand}

false_at : EncodesTo rows Distinguished 10 (boolean false) 0 (128 ∷ 1 ∷ 0 ∷ [])
unfolding identifier shortest_header
false_at = says (record { found = refl }) (leaf of_false) (innermost (shortest_is c0 false 1 (lit< tt)))

true_at : EncodesTo rows Distinguished 9 (boolean true) 0 (129 ∷ 1 ∷ 255 ∷ [])
unfolding identifier shortest_header
true_at = says (record { found = refl }) (leaf (of_true (lit< tt) (lit< tt) refl)) (innermost (shortest_is c1 false 1 (lit< tt)))

pub tags_ascend : InTagOrder (128 ∷ 1 ∷ 0 ∷ []) (129 ∷ 1 ∷ 255 ∷ [])
unfolding identifier
tags_ascend = record {
  former = c0;
  latter = c1;
  begins_former = record { constructed = false; count = 1; header = 128 ∷ 1 ∷ []; rest = 0 ∷ []; is_header = short_header c0 false 1 (lit< tt); whole = refl };
  begins_latter = record { constructed = false; count = 1; header = 129 ∷ 1 ∷ []; rest = 255 ∷ []; is_header = short_header c1 false 1 (lit< tt); whole = refl };
  before = inr (refl, lit< tt);
}

-- SET {a [1] BOOLEAN, b [0] BOOLEAN} with {a TRUE, b FALSE} is 31068001008101FF
pub set_is : EncodesTo rows Distinguished 11 (fields (present (boolean true) (present (boolean false) end))) 0 (49 ∷ 6 ∷ 128 ∷ 1 ∷ 0 ∷ 129 ∷ 1 ∷ 255 ∷ [])
unfolding identifier shortest_header
set_is = says (record { found = refl })
    (set (member true_at (λ z d. must_stand d.0 d.1) (member false_at (λ z d. must_stand d.0 d.1) no_member))
    (permutes_more (permutes_more permutes_none list_here) (list_there list_here))
    (ascending_more tags_ascend ascending_one)
    closed
    (merges_first (merges_first merges_none)))
    (innermost (shortest_is u17 true 6 (lit< tt)))

integer_1 : EncodesTo rows Distinguished 1 (integer (pos 1)) 0 (2 ∷ 1 ∷ 1 ∷ [])
unfolding identifier shortest_header
integer_1 = says (record { found = refl }) (leaf (of_integer (small 1 (lit< tt)))) (innermost (shortest_is u2 false 1 (lit< tt)))

integer_256 : EncodesTo rows Distinguished 1 (integer (pos 256)) 0 (2 ∷ 2 ∷ 1 ∷ 0 ∷ [])
unfolding identifier shortest_header
integer_256 = says (record { found = refl }) (leaf (of_integer is_256)) (innermost (shortest_is u2 false 2 (lit< tt)))

integer_minus_1 : EncodesTo rows Distinguished 1 (integer (negsuc 0)) 0 (2 ∷ 1 ∷ 255 ∷ [])
unfolding identifier shortest_header
integer_minus_1 = says (record { found = refl }) (leaf (of_integer is_minus_1)) (innermost (shortest_is u2 false 1 (lit< tt)))

-- SET OF INTEGER {1, 256, -1} is alike {1, -1, 256} and encoded as 310A0201010201FF02020100
pub set_of_is : EncodesTo rows Distinguished 7 (list (present (integer (pos 1)) (present (integer (negsuc 0)) (present (integer (pos 256)) end)))) 0 (49 ∷ 10 ∷ 2 ∷ 1 ∷ 1 ∷ 2 ∷ 1 ∷ 255 ∷ 2 ∷ 2 ∷ 1 ∷ 0 ∷ [])
unfolding identifier shortest_header
set_of_is = says (record { found = refl })
    (set_of (element integer_1 (element integer_minus_1 (element integer_256 no_element)))
    (ascending_more (inr (refl, inr (refl, inl (lit< tt)))) (ascending_more (inr (refl, inl (lit< tt))) ascending_one)))
    (innermost (shortest_is u17 true 10 (lit< tt)))

pub set_of_alike : Alike rows 7 (list (present (integer (pos 1)) (present (integer (pos 256)) (present (integer (negsuc 0)) end)))) (list (present (integer (pos 1)) (present (integer (negsuc 0)) (present (integer (pos 256)) end))))
set_of_alike = alike (record { found = refl }) (alike_set_of
    (pair (alike (record { found = refl }) (equal tt)) (pair (alike (record { found = refl }) (equal tt)) (pair (alike (record { found = refl }) (equal tt)) none_left here) (there here)) here))

seven : EncodesTo rows Distinguished 14 (integer (pos 7)) 0 (128 ∷ 1 ∷ 7 ∷ [])
unfolding identifier shortest_header
seven = says (record { found = refl }) (leaf (of_integer (small 7 (lit< tt)))) (innermost (shortest_is c0 false 1 (lit< tt)))

other : First rows 14 c1 → ⊥
other f = let e = ap (λ g. g.number) (first_only {t = 14} refl f) in omega arith

pub optional_no : (d : AbstractValue) → optional ≡ default d → ⊥
optional_no d e = subst IsOptional e tt
  where
    IsOptional : Presence → Type 0
    IsOptional mandatory = ⊥
    IsOptional optional = Unit {0}
    IsOptional (default d) = ⊥
    IsOptional (addition o g) = ⊥

-- SEQUENCE {a [0] INTEGER OPTIONAL, ...}: 3006800107810105 says {a 7} with one unknown addition
pub addition_skipped : EncodesTo rows Distinguished 15 (fields (present (integer (pos 7)) end)) 1 (48 ∷ 6 ∷ 128 ∷ 1 ∷ 7 ∷ 129 ∷ 1 ∷ 5 ∷ [])
unfolding identifier shortest_header
addition_skipped = says (record { found = refl })
    (sequence (member seven (λ z d. optional_no d.0 d.1) no_member)
    (extensible (unknown {g = c1} {c = false} {h = 129 ∷ 1 ∷ []} (5 ∷ []) (short_header c1 false 1 (lit< tt)) (lit< tt, tt) ((λ f. other f), tt) no_unknown)))
    (innermost (shortest_is u16 true 6 (lit< tt)))

-- an untagged CHOICE is its alternative's encoding, also that of an addition; [0] before it is explicit: A0020500
pub alternative_is : EncodesTo rows Distinguished 16 (alternative 0 null) 0 (5 ∷ 0 ∷ [])
alternative_is = says (record { found = refl }) (choice refl null_is) bare

pub new_alternative_is : EncodesTo rows Distinguished 16 (alternative 1 (boolean true)) 0 (1 ∷ 1 ∷ 255 ∷ [])
new_alternative_is = says (record { found = refl }) (choice refl true_is) bare

pub tagged_choice : EncodesTo rows Distinguished 17 (alternative 0 null) 0 (160 ∷ 2 ∷ 5 ∷ 0 ∷ [])
unfolding identifier shortest_header
tagged_choice = says (record { found = refl }) (choice refl null_is) (innermost (shortest_is c0 true 2 (lit< tt)))

-- elements in their order: 300505000101FF
pub list_is : EncodesTo rows Distinguished 18 (list (present (alternative 0 null) (present (alternative 1 (boolean true)) end))) 0 (48 ∷ 5 ∷ 5 ∷ 0 ∷ 1 ∷ 1 ∷ 255 ∷ [])
unfolding identifier shortest_header
list_is = says (record { found = refl }) (sequence_of (element alternative_is (element new_alternative_is no_element))) (innermost (shortest_is u16 true 5 (lit< tt)))

-- a type that leads back to itself: {{}} is 30023000
pub nested_is : EncodesTo rows Distinguished 22 (list (present (list end) end)) 0 (48 ∷ 2 ∷ 48 ∷ 0 ∷ [])
unfolding identifier shortest_header
nested_is = says (record { found = refl }) (sequence_of (element (says (record { found = refl }) (sequence_of no_element) (innermost (shortest_is u16 true 0 (lit< tt)))) no_element)) (innermost (shortest_is u16 true 2 (lit< tt)))

-- a component that equals its DEFAULT may be encoded if additions were skipped within it
pub default_with_addition : EncodesTo rows Distinguished 23 (fields (present (fields (present (integer (pos 7)) end)) end)) 1 (48 ∷ 8 ∷ 48 ∷ 6 ∷ 128 ∷ 1 ∷ 7 ∷ 129 ∷ 1 ∷ 5 ∷ [])
unfolding identifier shortest_header
default_with_addition = says (record { found = refl }) (sequence (member addition_skipped (λ z d. omega arith) no_member) closed) (innermost (shortest_is u16 true 8 (lit< tt)))

-- by the basic rules a default may be encoded, as in 30083106020101020102, and a SET or SET OF may have any order
integer_2 : EncodesTo rows Distinguished 1 (integer (pos 2)) 0 (2 ∷ 1 ∷ 2 ∷ [])
unfolding identifier shortest_header
integer_2 = says (record { found = refl }) (leaf (of_integer (small 2 (lit< tt)))) (innermost (shortest_is u2 false 1 (lit< tt)))

pub default_present : EncodesTo rows Basic 8 (fields (present one_and_two end)) 0 (48 ∷ 8 ∷ 49 ∷ 6 ∷ 2 ∷ 1 ∷ 1 ∷ 2 ∷ 1 ∷ 2 ∷ [])
unfolding identifier
default_present = says (record { found = refl })
    (sequence (member (says (record { found = refl }) (set_of (element (basic_of integer_1) (element (basic_of integer_2) no_element)) tt) (innermost (record { header = short_header u17 true 6 (lit< tt); fewest = tt }))) tt no_member) closed)
    (innermost (record { header = short_header u16 true 8 (lit< tt); fewest = tt }))

pub set_of_any_order : EncodesTo rows Basic 7 (list (present (integer (pos 2)) (present (integer (pos 1)) end))) 0 (49 ∷ 6 ∷ 2 ∷ 1 ∷ 2 ∷ 2 ∷ 1 ∷ 1 ∷ [])
unfolding identifier
set_of_any_order = says (record { found = refl }) (set_of (element (basic_of integer_2) (element (basic_of integer_1) no_element)) tt) (innermost (record { header = short_header u17 true 6 (lit< tt); fewest = tt }))

-- by the distinguished rules without their order it may too
pub set_of_unsorted : EncodesTo rows Unsorted 7 (list (present (integer (pos 2)) (present (integer (pos 1)) end))) 0 (49 ∷ 6 ∷ 2 ∷ 1 ∷ 2 ∷ 2 ∷ 1 ∷ 1 ∷ [])
unfolding identifier shortest_header
set_of_unsorted = says (record { found = refl }) (set_of (element (unsorted_of integer_2) (element (unsorted_of integer_1) no_element)) tt) (innermost (record { header = short_header u17 true 6 (lit< tt); fewest = (shortest_is u17 true 6 (lit< tt)).fewest }))

pub set_any_order : EncodesTo rows Basic 11 (fields (present (boolean true) (present (boolean false) end))) 0 (49 ∷ 6 ∷ 129 ∷ 1 ∷ 255 ∷ 128 ∷ 1 ∷ 0 ∷ [])
unfolding identifier
set_any_order = says (record { found = refl })
    (set (member (basic_of true_at) tt (member (basic_of false_at) tt no_member)) (permutes_more (permutes_more permutes_none list_here) list_here) tt closed (merges_first (merges_first merges_none)))
    (innermost (record { header = short_header u17 true 6 (lit< tt); fewest = tt }))
