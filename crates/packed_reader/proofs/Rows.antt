-- Rows of messages that are read or refused, by computation.
use Rattle.std.proofs.Common.{lit<, ◌≡◌, ℕ, zero, suc, Bool, true, false, List, [], ◌∷◌, ◌++◌, refl}
use Rattle.std.specs.Prelude.{Option, Some, None, ℤ, pos, replicate}
use Rattle.asn_base.specs.declared.strings.StringKind.TheVariants.{Ia5}
use Rattle.asn_base.specs.declared.tag.Class.TheVariants.{Context}
use Rattle.bits.specs.Words.{octet_bits}
use Rattle.asn_base.specs.declared.tag.Tag.{Tag}
use Rattle.asn_base.specs.Abstract.{AbstractValue, boolean, integer, octets, text, null, fields, list, alternative, Row, end, absent, present}
use Rattle.asn_base.specs.Types.{Constraint, any_number, any_size, Kind, a_boolean, an_integer, an_octet_string, a_null, a_restricted_string, a_sequence, a_set, a_sequence_of, a_set_of, a_choice, Presence, mandatory, optional, default, addition, Component, Alternative, Resolved}
use Rattle.decode_faults.specs.declared.refusal.Refusal.{Refusal}
use Rattle.decode_faults.specs.declared.refusal.Refusal.TheVariants.{Truncated, NotCanonical, Outside, UnknownAlternative, Padding, TooDeep, TooManyAdditions, NodesLimit}
use Rattle.packed_reader.specs.declared.part.Part.{Part}
use Rattle.packed_reader.specs.declared.part.Part.TheVariants as in_part
use Rattle.packed_reader.specs.Readings.{Reading, taken}
use Rattle.packed_reader.specs.Values.{Answer, answers, faulty, message_from, value_from}

-- ---- types

abbrev bounded : Option ℤ → Option ℤ → Bool → Constraint
bounded l g e = record { allowed = None; visible = record { least = l; greatest = g; extensible = e } }

abbrev from_to : ℕ → ℕ → Constraint
from_to l g = bounded (Some (pos l)) (Some (pos g)) false

-- 1..3 | 8
abbrev a_union : Constraint
a_union = record {
  allowed = Some (record { least = Some (pos 1); greatest = Some (pos 3) } ∷ record { least = Some (pos 8); greatest = Some (pos 8) } ∷ []);
  visible = record { least = Some (pos 1); greatest = Some (pos 8); extensible = false };
}

-- with the tag [n + 1]
abbrev context : ℕ → List Tag
context zero = record { class = Context; number = 1; in_range = lit< tt; not_reserved = λ e. lit< tt } ∷ []
context (suc n) = record { class = Context; number = 2; in_range = lit< tt; not_reserved = λ e. lit< tt } ∷ []

abbrev of_kind : Kind → Resolved
of_kind k = record { tags = []; kind = k }

abbrev tagged : ℕ → Kind → Resolved
tagged n k = record { tags = context n; kind = k }

abbrev is_component : ℕ → Presence → Component
is_component t p = record { name = []; type = t; presence = p }

abbrev an_alternative : ℕ → Alternative
an_alternative t = record { name = []; type = t }

abbrev one_type : Kind → List Resolved
one_type k = of_kind k ∷ []

abbrev new : Presence
new = addition false None

abbrev numbers : List ℕ → Row
numbers [] = end
numbers (n ∷ ns) = present (integer (pos n)) (numbers ns)

-- refused at a bit of the value itself, or of a part
abbrev at_bit : Refusal → ℕ → Answer
at_bit e i = faulty (record { why = e; path = [] }) i

abbrev within : List Part → Refusal → ℕ → Answer
within p e i = faulty (record { why = e; path = p }) i

-- ---- filling

-- BOOLEAN: 80 is TRUE; of C0 and 8000 the bits after the first are refused; no octets end too soon
a_truth : message_from (one_type a_boolean) 0 (128 ∷ []) ≡ answers (boolean true) 0
a_truth = refl

a_filling_bit : message_from (one_type a_boolean) 0 (192 ∷ []) ≡ at_bit Padding 1
a_filling_bit = refl

an_octet_more : message_from (one_type a_boolean) 0 (128 ∷ 0 ∷ []) ≡ at_bit Padding 1
an_octet_more = refl

no_octets : message_from (one_type a_boolean) 0 [] ≡ at_bit Truncated 0
no_octets = refl

-- NULL: 00; no octets, an octet more and a bit 1
no_bits : message_from (one_type a_null) 0 (0 ∷ []) ≡ answers null 0
no_bits = refl

no_bits_at_all : message_from (one_type a_null) 0 [] ≡ at_bit Truncated 0
no_bits_at_all = refl

no_bits_two_octets : message_from (one_type a_null) 0 (0 ∷ 0 ∷ []) ≡ at_bit Padding 0
no_bits_two_octets = refl

no_bits_but_one : message_from (one_type a_null) 0 (1 ∷ []) ≡ at_bit Padding 0
no_bits_but_one = refl

-- OCTET STRING: 0201 ends too soon, 800101 has one octet in the long form, C4 alone ends too soon
cut_off : message_from (one_type (an_octet_string any_size)) 0 (2 ∷ 1 ∷ []) ≡ at_bit Truncated 8
cut_off = refl

long_form : message_from (one_type (an_octet_string any_size)) 0 (128 ∷ 1 ∷ 1 ∷ []) ≡ at_bit NotCanonical 0
long_form = refl

cut_off_in_parts : message_from (one_type (an_octet_string any_size)) 0 (196 ∷ []) ≡ at_bit Truncated 8
cut_off_in_parts = refl

-- INTEGER (1..3 | 8): 60 is 4, which isn't allowed; E0 is 8
a_gap : message_from (one_type (an_integer a_union)) 0 (96 ∷ []) ≡ at_bit Outside 0
a_gap = refl

the_last : message_from (one_type (an_integer a_union)) 0 (224 ∷ []) ≡ answers (integer (pos 8)) 0
the_last = refl

-- INTEGER (0..7, ...): 808280 tells 2 as outside the root
root_as_outside : message_from (one_type (an_integer (bounded (Some (pos 0)) (Some (pos 7)) true))) 0 (128 ∷ 130 ∷ 128 ∷ []) ≡ at_bit NotCanonical 1
root_as_outside = refl

-- ---- components

-- SEQUENCE {a BOOLEAN OPTIONAL, b INTEGER (0..3) DEFAULT 2}: A0 is {a TRUE}, 60 has b as its DEFAULT
abbrev with_default : List Resolved
with_default = of_kind (a_sequence false (is_component 1 optional ∷ is_component 2 (default (integer (pos 2))) ∷ [])) ∷ of_kind a_boolean ∷ of_kind (an_integer (from_to 0 3)) ∷ []

default_absent : message_from with_default 0 (160 ∷ []) ≡ answers (fields (present (boolean true) (absent end))) 0
default_absent = refl

default_present : message_from with_default 0 (96 ∷ []) ≡ within (in_part.Component 1 ∷ []) NotCanonical 2
default_present = refl

-- SET {a [1] BOOLEAN, b [0] BOOLEAN}: 40 is {a TRUE, b FALSE}
set_by_tags : message_from (of_kind (a_set false (is_component 1 mandatory ∷ is_component 2 mandatory ∷ [])) ∷ tagged 1 a_boolean ∷ tagged 0 a_boolean ∷ []) 0 (64 ∷ []) ≡ answers (fields (present (boolean true) (present (boolean false) end))) 0
set_by_tags = refl

-- ---- additions

-- SEQUENCE {a BOOLEAN, ..., b INTEGER (0..7), c NULL}, with the first addition alone, and without additions
abbrev with_two : List Resolved
with_two = of_kind (a_sequence true (is_component 1 mandatory ∷ is_component 2 new ∷ is_component 3 new ∷ [])) ∷ of_kind a_boolean ∷ of_kind (an_integer (from_to 0 7)) ∷ of_kind a_null ∷ []

abbrev with_one : List Resolved
with_one = of_kind (a_sequence true (is_component 1 mandatory ∷ is_component 2 new ∷ [])) ∷ of_kind a_boolean ∷ of_kind (an_integer (from_to 0 7)) ∷ []

abbrev with_none : List Resolved
with_none = of_kind (a_sequence true (is_component 1 mandatory ∷ [])) ∷ of_kind a_boolean ∷ []

two_additions : message_from with_two 0 (192 ∷ 224 ∷ 52 ∷ 0 ∷ 32 ∷ 0 ∷ []) ≡ answers (fields (present (boolean true) (present (integer (pos 5)) (present null end)))) 0
two_additions = refl

one_unknown : message_from with_one 0 (192 ∷ 224 ∷ 52 ∷ 0 ∷ 32 ∷ 0 ∷ []) ≡ answers (fields (present (boolean true) (present (integer (pos 5)) end))) 1
one_unknown = refl

two_unknown : message_from with_none 0 (192 ∷ 224 ∷ 52 ∷ 0 ∷ 32 ∷ 0 ∷ []) ≡ answers (fields (present (boolean true) end)) 2
two_unknown = refl

-- an open type of no octets, C04000, in an addition that the type lacks or has
no_octets_unknown : message_from with_none 0 (192 ∷ 64 ∷ 0 ∷ []) ≡ at_bit Truncated 18
no_octets_unknown = refl

no_octets_known : message_from with_one 0 (192 ∷ 64 ∷ 0 ∷ []) ≡ within (in_part.Component 1 ∷ []) Truncated 18
no_octets_known = refl

a_shorter_map : message_from with_two 0 (192 ∷ 64 ∷ 104 ∷ 0 ∷ []) ≡ answers (fields (present (boolean true) (present (integer (pos 5)) (absent end)))) 0
a_shorter_map = refl

one_addition : message_from with_one 0 (192 ∷ 64 ∷ 104 ∷ 0 ∷ []) ≡ answers (fields (present (boolean true) (present (integer (pos 5)) end))) 0
one_addition = refl

none_known : message_from with_none 0 (192 ∷ 64 ∷ 104 ∷ 0 ∷ []) ≡ answers (fields (present (boolean true) end)) 1
none_known = refl

-- E0 tells more than 64 additions, C000 one addition, which is absent
too_many : message_from with_one 0 (224 ∷ []) ≡ at_bit TooManyAdditions 2
too_many = refl

no_addition_set : message_from with_one 0 (192 ∷ 0 ∷ []) ≡ at_bit NotCanonical 9
no_addition_set = refl

-- a bit 1 among those that fill the open type of b, and an octet too many in it
addition_filling : message_from with_one 0 (192 ∷ 64 ∷ 106 ∷ 0 ∷ []) ≡ within (in_part.Component 1 ∷ []) Padding 21
addition_filling = refl

addition_too_long : message_from with_one 0 (192 ∷ 64 ∷ 168 ∷ 0 ∷ 0 ∷ []) ≡ within (in_part.Component 1 ∷ []) Padding 21
addition_too_long = refl

-- SEQUENCE {s S DEFAULT {a 1}}, S ::= SEQUENCE {a INTEGER, ..., b BOOLEAN}: C04040406000, by it and by S without b
abbrev with_parts : Row → List Component → List Resolved
with_parts d more = of_kind (a_sequence false (is_component 1 (default (fields d)) ∷ [])) ∷ of_kind (a_sequence true (is_component 2 mandatory ∷ more)) ∷ of_kind (an_integer any_number) ∷ of_kind a_boolean ∷ []

default_and_addition : message_from (with_parts (present (integer (pos 1)) (absent end)) (is_component 3 new ∷ [])) 0 (192 ∷ 64 ∷ 64 ∷ 64 ∷ 96 ∷ 0 ∷ []) ≡ answers (fields (present (fields (present (integer (pos 1)) (present (boolean true) end))) end)) 0
default_and_addition = refl

default_once_skipped : message_from (with_parts (present (integer (pos 1)) end) []) 0 (192 ∷ 64 ∷ 64 ∷ 64 ∷ 96 ∷ 0 ∷ []) ≡ answers (fields (present (fields (present (integer (pos 1)) end)) end)) 1
default_once_skipped = refl

-- SEQUENCE {a BOOLEAN, ..., [[ b INTEGER (0..7), c NULL OPTIONAL ]]}: C0405400 and C0407400, and without the group
abbrev with_brackets : List Resolved
with_brackets = of_kind (a_sequence true (is_component 1 mandatory ∷ is_component 2 (addition false (Some 0)) ∷ is_component 3 (addition true (Some 0)) ∷ [])) ∷ of_kind a_boolean ∷ of_kind (an_integer (from_to 0 7)) ∷ of_kind a_null ∷ []

group_in_part : message_from with_brackets 0 (192 ∷ 64 ∷ 84 ∷ 0 ∷ []) ≡ answers (fields (present (boolean true) (present (integer (pos 5)) (absent end)))) 0
group_in_part = refl

group_whole : message_from with_brackets 0 (192 ∷ 64 ∷ 116 ∷ 0 ∷ []) ≡ answers (fields (present (boolean true) (present (integer (pos 5)) (present null end)))) 0
group_whole = refl

group_unknown : message_from with_none 0 (192 ∷ 64 ∷ 116 ∷ 0 ∷ []) ≡ answers (fields (present (boolean true) end)) 1
group_unknown = refl

-- [[ c NULL OPTIONAL ]] alone: C0404000 has the group without its member
empty_group : message_from (of_kind (a_sequence true (is_component 1 mandatory ∷ is_component 2 (addition true (Some 0)) ∷ [])) ∷ of_kind a_boolean ∷ of_kind a_null ∷ []) 0 (192 ∷ 64 ∷ 64 ∷ 0 ∷ []) ≡ at_bit NotCanonical 18
empty_group = refl

-- ---- alternatives

-- CHOICE {a NULL, ..., b BOOLEAN, c INTEGER (0..7)}: 8101A0 is c : 5; without c it is unknown
choice_added : message_from (of_kind (a_choice (an_alternative 1 ∷ []) true (an_alternative 2 ∷ an_alternative 3 ∷ [])) ∷ tagged 0 a_null ∷ of_kind a_boolean ∷ of_kind (an_integer (from_to 0 7)) ∷ []) 0 (129 ∷ 1 ∷ 160 ∷ []) ≡ answers (alternative 2 (integer (pos 5))) 0
choice_added = refl

choice_unknown : message_from (of_kind (a_choice (an_alternative 1 ∷ []) true (an_alternative 2 ∷ [])) ∷ tagged 0 a_null ∷ of_kind a_boolean ∷ []) 0 (129 ∷ 1 ∷ 160 ∷ []) ≡ at_bit UnknownAlternative 1
choice_unknown = refl

-- CHOICE {a BOOLEAN, ..., b NULL}: 8000 has b without an octet, 800100 is b : NULL
abbrev with_null : List Resolved
with_null = of_kind (a_choice (an_alternative 1 ∷ []) true (an_alternative 2 ∷ [])) ∷ tagged 0 a_boolean ∷ of_kind a_null ∷ []

no_octets_chosen : message_from with_null 0 (128 ∷ 0 ∷ []) ≡ within (in_part.Alternative 1 ∷ []) Truncated 16
no_octets_chosen = refl

one_octet_chosen : message_from with_null 0 (128 ∷ 1 ∷ 0 ∷ []) ≡ answers (alternative 1 null) 0
one_octet_chosen = refl

-- CHOICE {a [1] NULL, b [0] BOOLEAN, ...}: 20 is b : TRUE, 40 is a : NULL
abbrev a_choice_with_marker : List Resolved
a_choice_with_marker = of_kind (a_choice (an_alternative 1 ∷ an_alternative 2 ∷ []) true []) ∷ tagged 1 a_null ∷ tagged 0 a_boolean ∷ []

choice_first : message_from a_choice_with_marker 0 (32 ∷ []) ≡ answers (alternative 1 (boolean true)) 0
choice_first = refl

choice_second : message_from a_choice_with_marker 0 (64 ∷ []) ≡ answers (alternative 0 null) 0
choice_second = refl

-- of three alternatives the fourth
choice_outside : message_from (of_kind (a_choice (an_alternative 1 ∷ an_alternative 2 ∷ an_alternative 3 ∷ []) false []) ∷ tagged 0 a_null ∷ tagged 1 a_boolean ∷ of_kind a_null ∷ []) 0 (192 ∷ []) ≡ at_bit Outside 0
choice_outside = refl

-- ---- elements

-- SET OF INTEGER (0..255): 020102 is {1, 2}, 020201 is out of order
abbrev a_set_of_numbers : List Resolved
a_set_of_numbers = of_kind (a_set_of any_size 1) ∷ of_kind (an_integer (from_to 0 255)) ∷ []

set_in_order : message_from a_set_of_numbers 0 (2 ∷ 1 ∷ 2 ∷ []) ≡ answers (list (numbers (1 ∷ 2 ∷ []))) 0
set_in_order = refl

set_out_of_order : message_from a_set_of_numbers 0 (2 ∷ 2 ∷ 1 ∷ []) ≡ within (in_part.Element 1 ∷ []) NotCanonical 16
set_out_of_order = refl

-- SET OF OCTET STRING: 02000101 is {''H, '01'H}
set_of_octets : message_from (of_kind (a_set_of any_size 1) ∷ of_kind (an_octet_string any_size) ∷ []) 0 (2 ∷ 0 ∷ 1 ∷ 1 ∷ []) ≡ answers (list (present (octets []) (present (octets (1 ∷ [])) end))) 0
set_of_octets = refl

-- L ::= SEQUENCE OF L: 63 octets 01 and then 00 are 64 levels, and with one more there are too many
abbrev levels : ℕ → AbstractValue
levels zero = list end
levels (suc n) = list (present (levels n) end)

abbrev firsts : ℕ → List Part
firsts zero = []
firsts (suc n) = in_part.Element 0 ∷ firsts n

deep_list : message_from (one_type (a_sequence_of any_size 0)) 0 (replicate 63 1 ++ (0 ∷ [])) ≡ answers (levels 63) 0
deep_list = refl

too_deep : message_from (one_type (a_sequence_of any_size 0)) 0 (replicate 64 1 ++ (0 ∷ [])) ≡ within (firsts 64) TooDeep 512
too_deep = refl

-- SEQUENCE OF NULL: of three elements the third begins one value too many, where three may begin
too_many_values : value_from (of_kind (a_sequence_of any_size 1) ∷ of_kind a_null ∷ []) 64 0 3 (replicate 6 false ++ (true ∷ true ∷ [])) ≡ Reading.refused (record { why = NodesLimit; path = in_part.Element 2 ∷ [] }) []
too_many_values = refl

-- ---- characters that take no bits

-- IA5String (FROM ("a")): 03 is "aaa", which takes the place of four values. Where three values may begin, its fault is
-- at its first bit.
abbrev letters : Kind
letters = a_restricted_string Ia5 (97 ∷ []) any_size

characters_count : value_from (one_type letters) 64 0 4 (octet_bits (3 ∷ [])) ≡ Reading.read (taken (text (97 ∷ 97 ∷ 97 ∷ [])) 0 0) []
characters_count = refl

too_many_characters : value_from (one_type letters) 64 0 3 (octet_bits (3 ∷ [])) ≡ Reading.refused (record { why = NodesLimit; path = [] }) (octet_bits (3 ∷ []))
too_many_characters = refl

-- SEQUENCE OF IA5String (FROM ("a")) (SIZE (2)): 02 is {"aa", "aa"}, which takes the place of seven values
abbrev pairs : List Resolved
pairs = of_kind (a_sequence_of any_size 1) ∷ of_kind (a_restricted_string Ia5 (97 ∷ []) (from_to 2 2)) ∷ []

pairs_count : value_from pairs 64 0 7 (octet_bits (2 ∷ [])) ≡ Reading.read (taken (list (present (text (97 ∷ 97 ∷ [])) (present (text (97 ∷ 97 ∷ [])) end))) 0 0) []
pairs_count = refl

too_many_pairs : value_from pairs 64 0 6 (octet_bits (2 ∷ [])) ≡ Reading.refused (record { why = NodesLimit; path = in_part.Element 1 ∷ [] }) []
too_many_pairs = refl
