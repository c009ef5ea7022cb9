-- Worked rows of views: what trees show, what is borrowed, and what is not.
use Rattle.std.proofs.Common.{arith, ◌≡◌, ℕ, Bool, true, false, List, [], ◌∷◌, Option, Some, None, refl, ap}
use Rattle.std.specs.Prelude.{ℤ, pos, negsuc}
use Rattle.asn_base.specs.Abstract as value
use Rattle.encodings.specs.declared.leaf_kind.LeafKind.TheVariants.{OctetString}
use Rattle.codec_code.specs.Routines.{id_of}
use Rattle.octet_answers.specs.States.{Token, component as component', begun, ended, held, passed}
use Rattle.ber_source.specs.Shown.{IsShownAs, leaves_of, AreShown}
use Rattle.views.specs.Tree.{boolean, integer, enumerated, bits, octets, text, null, oid, relative_oid, Leaf, ViewTree, leaf, fields, list, alternative, ViewMembers, no_member, member, bits_in, leaf_value, value_of, component_value, component, count, left_after, nodes_left, joined, IsBorrowedAt, IsBorrowed, boolean_in, integer_in, members_in, alternative_in, enumerated_in, null_in, octets_in, bit_string_in, text_in, oid_in, relative_oid_in}

abbrev head_or_0 : List ℕ → ℕ
head_or_0 [] = 0
head_or_0 (x ∷ xs) = x

-- ---- 300C 0402 0102 2C06 0401C3 0401A9: SEQUENCE {a OCTET STRING, b UTF8String}; a is at 4 in the message, b was
-- joined

abbrev message : List ℕ
message = 48 ∷ 12 ∷ 4 ∷ 2 ∷ 1 ∷ 2 ∷ 44 ∷ 6 ∷ 4 ∷ 1 ∷ 195 ∷ 4 ∷ 1 ∷ 169 ∷ []

abbrev first : Leaf
first = octets (1 ∷ 2 ∷ []) (Some 4)

abbrev second : Leaf
second = text (195 ∷ 169 ∷ []) None

abbrev row : ViewTree
row = fields 2 (member 0 (leaf first) (member 1 (leaf second) no_member))

pub shows_a_and_b : value_of row ≡ value.fields (value.present (value.octets (1 ∷ 2 ∷ [])) (value.present (value.text (195 ∷ 169 ∷ [])) value.end))
shows_a_and_b = refl

pub is_borrowed : IsBorrowed message row
is_borrowed = (refl, (tt, tt))

-- its octets are at no other place, and other octets aren't there
pub not_one_earlier : IsBorrowedAt message (1 ∷ 2 ∷ []) (Some 3) → ⊥
not_one_earlier e = let h : 2 ≡ 1 = ap head_or_0 e in omega (arith, h)

pub not_one_later : IsBorrowedAt message (1 ∷ 2 ∷ []) (Some 5) → ⊥
not_one_later e = let h : 2 ≡ 1 = ap head_or_0 e in omega (arith, h)

pub not_past_the_end : IsBorrowedAt message (169 ∷ []) (Some 14) → ⊥
not_past_the_end e = let h : 0 ≡ 169 = ap head_or_0 e in omega (arith, h)

-- nor is a tree borrowed if one string within it isn't at its place
pub not_borrowed_within : IsBorrowed message (list (member 0 (leaf null) (member 0 (alternative 0 (leaf (octets (1 ∷ 2 ∷ []) (Some 3)))) no_member))) → ⊥
not_borrowed_within b = not_one_earlier b.1.0

pub bits_not_borrowed : IsBorrowed message (leaf (bits 0 (1 ∷ 2 ∷ []) (Some 3))) → ⊥
bits_not_borrowed b = not_one_earlier b

pub text_not_borrowed : IsBorrowed message (leaf (text (1 ∷ 2 ∷ []) (Some 3))) → ⊥
text_not_borrowed b = not_one_earlier b

-- ---- how contents octets are shown: 0102 at 4, primitive, and 0401C3 0401A9 at 8 in segments

abbrev held_at : Bool → List ℕ → ℕ → Token
held_at c x at = held OctetString c x at

pub shows_both : AreShown (begun (id_of 0) ∷ component' 0 ∷ held_at false (1 ∷ 2 ∷ []) 4 ∷ component' 1 ∷ held_at true (4 ∷ 1 ∷ 195 ∷ 4 ∷ 1 ∷ 169 ∷ []) 8 ∷ passed ∷ ended ∷ []) (leaves_of row)
shows_both = ((refl, refl), (refl, tt))

some_none : {n : ℕ} → Some n ≡ None → ⊥
some_none e = cc

none_some : {n : ℕ} → None ≡ Some n → ⊥
none_some e = cc

abbrev number_in : Option ℕ → ℕ
number_in None = 0
number_in (Some n) = n

-- a primitive string isn't a copy, and a joined one has no place
pub octets_are_no_copy : IsShownAs false (1 ∷ 2 ∷ []) 4 (octets (1 ∷ 2 ∷ []) None) → ⊥
octets_are_no_copy h = none_some h.1

pub text_is_no_copy : IsShownAs false (1 ∷ 2 ∷ []) 4 (text (1 ∷ 2 ∷ []) None) → ⊥
text_is_no_copy h = none_some h.1

pub bits_are_no_copy : IsShownAs false (0 ∷ 2 ∷ []) 4 (bits 0 (2 ∷ []) None) → ⊥
bits_are_no_copy h = none_some h.1

pub joined_octets_have_no_place : IsShownAs true (4 ∷ 1 ∷ 2 ∷ []) 4 (octets (2 ∷ []) (Some 6)) → ⊥
joined_octets_have_no_place h = some_none h

pub joined_text_has_no_place : IsShownAs true (4 ∷ 1 ∷ 2 ∷ []) 4 (text (2 ∷ []) (Some 6)) → ⊥
joined_text_has_no_place h = some_none h

pub joined_bits_have_no_place : IsShownAs true (3 ∷ 2 ∷ 0 ∷ 2 ∷ []) 4 (bits 0 (2 ∷ []) (Some 7)) → ⊥
joined_bits_have_no_place h = some_none h

-- at its own place, a BIT STRING from its second contents octet on
pub bits_from_the_second_octet : IsShownAs false (0 ∷ 2 ∷ []) 4 (bits 0 (2 ∷ []) (Some 5))
bits_from_the_second_octet = (refl, refl)

pub not_at_the_next_octet : IsShownAs false (1 ∷ 2 ∷ []) 4 (octets (1 ∷ 2 ∷ []) (Some 5)) → ⊥
not_at_the_next_octet h = let e : 5 ≡ 4 = ap number_in h.1 in omega (arith, e)

pub text_not_at_the_next_octet : IsShownAs false (1 ∷ 2 ∷ []) 4 (text (1 ∷ 2 ∷ []) (Some 5)) → ⊥
text_not_at_the_next_octet h = let e : 5 ≡ 4 = ap number_in h.1 in omega (arith, e)

-- as many leaves as contents octets
pub no_leaf_too_many : AreShown [] (null ∷ []) → ⊥
no_leaf_too_many h = h

pub no_leaf_too_few : AreShown (held_at false [] 2 ∷ []) [] → ⊥
no_leaf_too_few h = h

-- each leaf by its own ones
pub second_is_shown_too : AreShown (held_at false [] 2 ∷ held_at false [] 4 ∷ []) (octets [] (Some 2) ∷ octets [] None ∷ []) → ⊥
second_is_shown_too h = none_some h.1.0.1

-- ---- values of leaves

pub truth : leaf_value (boolean true) ≡ value.boolean true
truth = refl

pub a_number : leaf_value (integer (negsuc 4)) ≡ value.integer (negsuc 4)
a_number = refl

pub an_item : leaf_value (enumerated (pos 3)) ≡ value.enumerated (pos 3)
an_item = refl

-- AA F0 with four unused bits are 1010 1010 1111
pub twelve_bits : bits_in 4 (170 ∷ 240 ∷ []) ≡ true ∷ false ∷ true ∷ false ∷ true ∷ false ∷ true ∷ false ∷ true ∷ true ∷ true ∷ true ∷ []
twelve_bits = refl

pub no_bits : bits_in 0 [] ≡ []
no_bits = refl

pub nothing : leaf_value null ≡ value.null
nothing = refl

pub identifiers : leaf_value (oid (1 ∷ 2 ∷ 840 ∷ [])) ≡ value.oid (1 ∷ 2 ∷ 840 ∷ [])
identifiers = refl

pub relative_ones : leaf_value (relative_oid (8571 ∷ [])) ≡ value.relative_oid (8571 ∷ [])
relative_ones = refl

-- ---- values of trees

-- of three components the last one alone is there
pub two_absent : value_of (fields 3 (member 2 (leaf null) no_member)) ≡ value.fields (value.absent (value.absent (value.present value.null value.end)))
two_absent = refl

-- members may come in any order, and the first one of a number counts
abbrev mixed : ViewMembers
mixed = member 1 (leaf null) (member 0 (leaf (boolean true)) (member 0 (leaf (boolean false)) no_member))

pub in_any_order : value_of (fields 2 mixed) ≡ value.fields (value.present (value.boolean true) (value.present value.null value.end))
in_any_order = refl

pub elements_in_order : value_of (list mixed) ≡ value.list (value.present value.null (value.present (value.boolean true) (value.present (value.boolean false) value.end)))
elements_in_order = refl

pub second_alternative : value_of (alternative 1 (leaf null)) ≡ value.alternative 1 value.null
second_alternative = refl

-- ---- the nodes of a tree

pub first_of_a_number : component mixed 0 ≡ Some (leaf (boolean true))
first_of_a_number = refl

pub none_of_a_number : component mixed 2 ≡ None
none_of_a_number = refl

pub three_members : count mixed ≡ 3
three_members = refl

pub one_after_another : count (joined mixed mixed) ≡ 6
one_after_another = refl

pub first_ones_first : joined (member 5 (leaf null) no_member) (member 7 (leaf null) no_member) ≡ member 5 (leaf null) (member 7 (leaf null) no_member)
first_ones_first = refl

pub octets_with_a_place : octets_in (leaf first) ≡ Some (1 ∷ 2 ∷ [], Some 4)
octets_with_a_place = refl

pub text_without_one : text_in (leaf second) ≡ Some (195 ∷ 169 ∷ [], None)
text_without_one = refl

pub bits_with_a_place : bit_string_in (leaf (bits 4 (240 ∷ []) (Some 3))) ≡ Some (4, 240 ∷ [], Some 3)
bits_with_a_place = refl

pub no_text_of_octets : text_in (leaf first) ≡ None
no_text_of_octets = refl

pub no_octets_of_text : octets_in (leaf second) ≡ None
no_octets_of_text = refl

pub no_item_of_a_number : enumerated_in (leaf (integer (pos 3))) ≡ None
no_item_of_a_number = refl

pub no_number_of_an_item : integer_in (leaf (enumerated (pos 3))) ≡ None
no_number_of_an_item = refl

pub no_oid_of_relative_ones : oid_in (leaf (relative_oid (1 ∷ []))) ≡ None
no_oid_of_relative_ones = refl

pub no_relative_ones_of_an_oid : relative_oid_in (leaf (oid (1 ∷ 2 ∷ []))) ≡ None
no_relative_ones_of_an_oid = refl

pub no_null_in_a_row : null_in row ≡ false
no_null_in_a_row = refl

pub no_truth_in_null : boolean_in (leaf null) ≡ None
no_truth_in_null = refl

pub members_of_a_row : count (members_in row) ≡ 2
members_of_a_row = refl

pub members_of_a_list : count (members_in (list mixed)) ≡ 3
members_of_a_list = refl

pub no_members_of_an_alternative : members_in (alternative 0 row) ≡ no_member
no_members_of_an_alternative = refl

pub alternative_and_its_value : alternative_in (alternative 1 (leaf null)) ≡ Some (1, leaf null)
alternative_and_its_value = refl

-- ---- a member is taken if it is the first one; members have their nodes and those below them

abbrev a_list : ViewTree
a_list = list (member 0 (leaf null) no_member)

abbrev two : ViewMembers
two = member 0 (leaf null) (member 1 a_list no_member)

pub first_taken : left_after 0 two ≡ member 1 a_list no_member
first_taken = refl

pub second_not_taken : left_after 1 two ≡ two
second_not_taken = refl

pub three_nodes : nodes_left two ≡ 3
three_nodes = refl
