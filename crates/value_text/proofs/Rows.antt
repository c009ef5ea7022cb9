-- Worked rows: values and their texts.
use Rattle.std.proofs.Common.{◌≡◌, List, [], ◌∷◌, refl, true, false}
use Rattle.std.specs.Prelude.{codes, pos, negsuc}
use Rattle.std.specs.Fmt.{digits}
use Rattle.asn_base.specs.Abstract.{boolean, integer, enumerated, bits, octets, text, null, oid}
use Rattle.asn_base.specs.Abstract.{relative_oid, fields, list, alternative, end, absent, present}
use Rattle.asn_base.specs.Types.{any_number, any_size, a_boolean, an_integer, an_enumerated}
use Rattle.asn_base.specs.Types.{a_bit_string, an_octet_string, a_null, an_object_identifier, a_relative_oid}
use Rattle.asn_base.specs.Types.{a_utf8_string, a_sequence, a_set, a_sequence_of, a_set_of, a_choice, mandatory}
use Rattle.asn_base.specs.Types.{optional, default, Kind, Resolved}
use Rattle.value_text.specs.Print.{print}

abbrev plain : Kind → Resolved
plain k = record { tags = []; kind = k }

-- Types 0 to 5 are BOOLEAN, INTEGER, ENUMERATED {b(-1), a(4), ..., c-d(3)}, BIT STRING, OCTET STRING and NULL. Types 6
-- to 8 are OBJECT IDENTIFIER, RELATIVE-OID and UTF8String. Type 9 is SEQUENCE {a INTEGER OPTIONAL, b BOOLEAN DEFAULT
-- TRUE, c NULL}, and type 10 is SET {b BOOLEAN OPTIONAL, a INTEGER}. Type 11 is SEQUENCE OF INTEGER, and type 12 is SET
-- OF SEQUENCE OF INTEGER. Type 13 is CHOICE {a INTEGER, ..., b-c} with its own type as that of b-c.
abbrev types : List Resolved
types = plain a_boolean
    ∷ plain (an_integer any_number)
    ∷ plain (an_enumerated
    (record { name = codes "b"; number = negsuc 0 } ∷ record { name = codes "a"; number = pos 4 } ∷ [])
    true
    (record { name = codes "c-d"; number = pos 3 } ∷ []))
    ∷ plain (a_bit_string any_size)
    ∷ plain (an_octet_string any_size)
    ∷ plain a_null
    ∷ plain an_object_identifier
    ∷ plain a_relative_oid
    ∷ plain (a_utf8_string any_size)
    ∷ plain (a_sequence false
    (record { name = codes "a"; type = 1; presence = optional }
    ∷ record { name = codes "b"; type = 0; presence = default (boolean true) }
    ∷ record { name = codes "c"; type = 5; presence = mandatory } ∷ []))
    ∷ plain (a_set false
    (record { name = codes "b"; type = 0; presence = optional }
    ∷ record { name = codes "a"; type = 1; presence = mandatory } ∷ []))
    ∷ plain (a_sequence_of any_size 1)
    ∷ plain (a_set_of any_size 11)
    ∷ plain (a_choice
    (record { name = codes "a"; type = 1 } ∷ [])
    true
    (record { name = codes "b-c"; type = 13 } ∷ []))
    ∷ []

-- ---- truth values, numbers, NULL

truth : print types 0 (boolean true) ≡ codes "TRUE"
truth = refl

falsehood : print types 0 (boolean false) ≡ codes "FALSE"
falsehood = refl

nothing : print types 5 null ≡ codes "NULL"
nothing = refl

zero_is : print types 1 (integer (pos 0)) ≡ codes "0"
unfolding digits
zero_is = refl

a_number : print types 1 (integer (pos 1200)) ≡ codes "1200"
unfolding digits
a_number = refl

minus_one : print types 1 (integer (negsuc 0)) ≡ codes "-1"
unfolding digits
minus_one = refl

least : print types 1 (integer (negsuc 170141183460469231731687303715884105727)) ≡ codes "-170141183460469231731687303715884105728"
unfolding digits
least = refl

-- ---- items

root_item : print types 2 (enumerated (negsuc 0)) ≡ codes "b"
root_item = refl

added_item : print types 2 (enumerated (pos 3)) ≡ codes "c-d"
added_item = refl

-- ---- bits and octets

no_bits : print types 3 (bits []) ≡ codes "''B"
no_bits = refl

some_bits : print types 3 (bits (false ∷ true ∷ true ∷ [])) ≡ codes "'011'B"
some_bits = refl

no_octets : print types 4 (octets []) ≡ codes "''H"
no_octets = refl

some_octets : print types 4 (octets (1 ∷ 175 ∷ 35 ∷ 69 ∷ 103 ∷ 137 ∷ 205 ∷ 238 ∷ [])) ≡ codes "'01AF23456789CDEE'H"
some_octets = refl

-- ---- identifiers of objects

an_oid : print types 6 (oid (1 ∷ 2 ∷ 840 ∷ [])) ≡ codes "{1 2 840}"
unfolding digits
an_oid = refl

a_relative : print types 7 (relative_oid (8571 ∷ [])) ≡ codes "{8571}"
unfolding digits
a_relative = refl

-- ---- texts

no_text : print types 8 (text []) ≡ codes "\"\""
no_text = refl

a_text : print types 8 (text (codes "a 'b'")) ≡ codes "\"a 'b'\""
a_text = refl

quotes : print types 8 (text (codes "a\"\"b\"")) ≡ codes "\"a\"\"\"\"b\"\"\""
quotes = refl

past_ascii : print types 8 (text (195 ∷ 169 ∷ [])) ≡ 34 ∷ 195 ∷ 169 ∷ 34 ∷ []
past_ascii = refl

tab : print types 8 (text (97 ∷ 9 ∷ 14 ∷ [])) ≡ 34 ∷ 97 ∷ 9 ∷ 14 ∷ 34 ∷ []
tab = refl

line_feed : print types 8 (text (97 ∷ 10 ∷ 34 ∷ [])) ≡ codes "'610A22'H"
line_feed = refl

vertical_tab : print types 8 (text (11 ∷ [])) ≡ codes "'0B'H"
vertical_tab = refl

form_feed : print types 8 (text (12 ∷ [])) ≡ codes "'0C'H"
form_feed = refl

carriage_return : print types 8 (text (98 ∷ 13 ∷ [])) ≡ codes "'620D'H"
carriage_return = refl

-- ---- components

all_components : print types 9 (fields (present (integer (pos 1)) (present (boolean true) (present null end)))) ≡ codes "{a 1, b TRUE, c NULL}"
unfolding digits
all_components = refl

first_absent : print types 9 (fields (absent (present (boolean false) (present null end)))) ≡ codes "{b FALSE, c NULL}"
first_absent = refl

one_component : print types 9 (fields (absent (absent (present null end)))) ≡ codes "{c NULL}"
one_component = refl

last_absent : print types 10 (fields (present (boolean true) (absent end))) ≡ codes "{b TRUE}"
last_absent = refl

no_component : print types 10 (fields (absent (absent end))) ≡ codes "{}"
no_component = refl

set_in_order : print types 10 (fields (present (boolean true) (present (integer (pos 7)) end))) ≡ codes "{b TRUE, a 7}"
unfolding digits
set_in_order = refl

-- ---- elements

no_elements : print types 11 (list end) ≡ codes "{}"
no_elements = refl

one_element : print types 11 (list (present (integer (pos 1)) end)) ≡ codes "{1}"
unfolding digits
one_element = refl

in_lists : print types 12 (list (present (list (present (integer (pos 1)) (present (integer (pos 2)) end))) (present (list end) end))) ≡ codes "{{1, 2}, {}}"
unfolding digits
in_lists = refl

-- ---- alternatives

chosen : print types 13 (alternative 0 (integer (pos 1))) ≡ codes "a : 1"
unfolding digits
chosen = refl

chosen_twice : print types 13 (alternative 1 (alternative 0 (integer (pos 1)))) ≡ codes "b-c : a : 1"
unfolding digits
chosen_twice = refl
