-- Rows of what bits are read as, by computation. Messages are octets. What is left is the filling, or the bits from the
-- place of a fault on.
use Rattle.std.proofs.Common.{◌≡◌, ℕ, Bool, true, false, List, [], ◌∷◌, ◌++◌, refl}
use Rattle.std.specs.Prelude.{Option, Some, None, ℤ, pos, negsuc, replicate}
use Rattle.asn_base.specs.declared.strings.StringKind.TheVariants.{Printable, Ia5}
use Rattle.asn_base.specs.Abstract.{AbstractValue, boolean, integer, enumerated, bits, octets, text, null, oid, relative_oid}
use Rattle.asn_base.specs.Types.{Range, Constraint, any_number, any_size, Item, Kind, a_boolean, an_integer, an_enumerated, a_bit_string, a_named_bit_string, an_octet_string, a_null, an_object_identifier, a_relative_oid, a_restricted_string}
use Rattle.bits.specs.Words.{octet_bits, low_bits}
use Rattle.packed_encodings.specs.Lengths.{Bits}
use Rattle.decode_faults.specs.declared.refusal.Refusal.TheVariants as why
use Rattle.packed_readings.specs.Outcome.{Outcome, found, stops}
use Rattle.packed_readings.specs.Counts.{count_from, size_from}
use Rattle.packed_readings.specs.declared.count.Count.TheVariants.{Last as last, Part as part}
use Rattle.packed_readings.specs.declared.size.Sizing.TheVariants.{AtOnce as at_once, Counted as counted}
use Rattle.packed_readings.specs.Leaves.{leaf_from}

-- the message's octets
abbrev reads : Kind → List ℕ → Outcome AbstractValue
reads k o = leaf_from k (octet_bits o)

abbrev zeros : ℕ → Bits
zeros n = replicate n false

abbrev bounded : Option (List Range) → Option ℤ → Option ℤ → Bool → Constraint
bounded a l g e = record { allowed = a; visible = record { least = l; greatest = g; extensible = e } }

abbrev range : Option ℤ → Option ℤ → Range
range l g = record { least = l; greatest = g }

abbrev from_to : ℕ → ℕ → Constraint
from_to l g = bounded (Some (range (Some (pos l)) (Some (pos g)) ∷ [])) (Some (pos l)) (Some (pos g)) false

-- with a marker, after which everything is allowed
abbrev marked : ℕ → ℕ → Constraint
marked l g = bounded None (Some (pos l)) (Some (pos g)) true

-- (1..3 | 8)
abbrev with_gap : Constraint
with_gap = bounded (Some (range (Some (pos 1)) (Some (pos 3)) ∷ (range (Some (pos 8)) (Some (pos 8)) ∷ []))) (Some (pos 1)) (Some (pos 8)) false

abbrev from_5_below : Constraint
from_5_below = bounded (Some (range (Some (negsuc 4)) None ∷ [])) (Some (negsuc 4)) None false

abbrev an_item : ℕ → Item
an_item n = record { name = []; number = pos n }

-- ---- BOOLEAN, NULL

truth : reads a_boolean (128 ∷ []) ≡ found (boolean true) (zeros 7)
truth = refl

no_truth : reads a_boolean [] ≡ stops why.Truncated []
no_truth = refl

nothing : reads a_null [] ≡ found null []
nothing = refl

-- ---- INTEGER

integer_128 : reads (an_integer any_number) (2 ∷ 0 ∷ 128 ∷ []) ≡ found (integer (pos 128)) []
integer_128 = refl

integer_minus_128 : reads (an_integer any_number) (1 ∷ 128 ∷ []) ≡ found (integer (negsuc 127)) []
integer_minus_128 = refl

-- not the shortest, of either sign
zero_first : reads (an_integer any_number) (2 ∷ 0 ∷ 127 ∷ []) ≡ stops why.NotCanonical (octet_bits (2 ∷ 0 ∷ 127 ∷ []))
zero_first = refl

ones_first : reads (an_integer any_number) (2 ∷ 255 ∷ 128 ∷ []) ≡ stops why.NotCanonical (octet_bits (2 ∷ 255 ∷ 128 ∷ []))
ones_first = refl

no_octets : reads (an_integer any_number) (0 ∷ []) ≡ stops why.Outside (octet_bits (0 ∷ []))
no_octets = refl

too_few_octets : reads (an_integer any_number) (2 ∷ 1 ∷ []) ≡ stops why.Truncated (octet_bits (1 ∷ []))
too_few_octets = refl

-- 2^127 has seventeen octets
past_limit : reads (an_integer any_number) (17 ∷ 0 ∷ 128 ∷ replicate 15 0) ≡ stops why.IntegerLimit (octet_bits (17 ∷ 0 ∷ 128 ∷ replicate 15 0))
past_limit = refl

-- -2^127 has sixteen
least_number : reads (an_integer any_number) (16 ∷ 128 ∷ replicate 15 0) ≡ found (integer (negsuc 170141183460469231731687303715884105727)) []
least_number = refl

-- the number of octets has eight bits, although seven are enough
long_length : reads (an_integer any_number) (128 ∷ 1 ∷ 5 ∷ []) ≡ stops why.NotCanonical (octet_bits (128 ∷ 1 ∷ 5 ∷ []))
long_length = refl

-- INTEGER (3..6): 80 is 5
in_range : reads (an_integer (from_to 3 6)) (128 ∷ []) ≡ found (integer (pos 5)) (zeros 6)
in_range = refl

-- INTEGER (1..6): 6 is 7
out_of_range : reads (an_integer (from_to 1 6)) (192 ∷ []) ≡ stops why.Outside (octet_bits (192 ∷ []))
out_of_range = refl

-- INTEGER (1..3 | 8): E0 is 8, 60 is 4, in the gap
in_union : reads (an_integer with_gap) (224 ∷ []) ≡ found (integer (pos 8)) (zeros 5)
in_union = refl

in_gap : reads (an_integer with_gap) (96 ∷ []) ≡ stops why.Outside (octet_bits (96 ∷ []))
in_gap = refl

-- INTEGER (-5..MAX): 020100 is 251, 01FF is 250, 020001 isn't the shortest
from_least : reads (an_integer from_5_below) (2 ∷ 1 ∷ 0 ∷ []) ≡ found (integer (pos 251)) []
from_least = refl

from_least_250 : reads (an_integer from_5_below) (1 ∷ 255 ∷ []) ≡ found (integer (pos 250)) []
from_least_250 = refl

least_itself : reads (an_integer from_5_below) (1 ∷ 0 ∷ []) ≡ found (integer (negsuc 4)) []
least_itself = refl

zero_before : reads (an_integer from_5_below) (2 ∷ 0 ∷ 1 ∷ []) ≡ stops why.NotCanonical (octet_bits (2 ∷ 0 ∷ 1 ∷ []))
zero_before = refl

-- (MIN..5): 0105 is 5, 0106 is 6
at_most_5 : reads (an_integer (bounded (Some (range None (Some (pos 5)) ∷ [])) None (Some (pos 5)) false)) (1 ∷ 5 ∷ []) ≡ found (integer (pos 5)) []
at_most_5 = refl

above_5 : reads (an_integer (bounded (Some (range None (Some (pos 5)) ∷ [])) None (Some (pos 5)) false)) (1 ∷ 6 ∷ []) ≡ stops why.Outside (octet_bits (1 ∷ 6 ∷ []))
above_5 = refl

-- INTEGER (0..7, ...): 50 is 5, 808480 is 9, and 808280 is 5 as a number outside the root
in_root : reads (an_integer (marked 0 7)) (80 ∷ []) ≡ found (integer (pos 5)) (zeros 4)
in_root = refl

outside_root : reads (an_integer (marked 0 7)) (128 ∷ 132 ∷ 128 ∷ []) ≡ found (integer (pos 9)) (zeros 7)
outside_root = refl

root_told_outside : reads (an_integer (marked 0 7)) (128 ∷ 130 ∷ 128 ∷ []) ≡ stops why.NotCanonical (low_bits 7 0 ++ octet_bits (130 ∷ 128 ∷ []))
root_told_outside = refl

-- ---- ENUMERATED

-- ENUMERATED {a, b, c}: 80 is c, and C0 isn't an item
third_item : reads (an_enumerated (an_item 0 ∷ (an_item 1 ∷ (an_item 2 ∷ []))) false []) (128 ∷ []) ≡ found (enumerated (pos 2)) (zeros 6)
third_item = refl

no_item : reads (an_enumerated (an_item 0 ∷ (an_item 1 ∷ (an_item 2 ∷ []))) false []) (192 ∷ []) ≡ stops why.Outside (octet_bits (192 ∷ []))
no_item = refl

-- ENUMERATED {a, b, ..., c}: 40 is b, 80 is c, 81 none that is known, C0 no small number
root_item : reads (an_enumerated (an_item 0 ∷ (an_item 1 ∷ [])) true (an_item 2 ∷ [])) (64 ∷ []) ≡ found (enumerated (pos 1)) (zeros 6)
root_item = refl

added_item : reads (an_enumerated (an_item 0 ∷ (an_item 1 ∷ [])) true (an_item 2 ∷ [])) (128 ∷ []) ≡ found (enumerated (pos 2)) []
added_item = refl

unknown_item : reads (an_enumerated (an_item 0 ∷ (an_item 1 ∷ [])) true (an_item 2 ∷ [])) (129 ∷ []) ≡ stops why.UnknownEnumeration (low_bits 7 1)
unknown_item = refl

great_item : reads (an_enumerated (an_item 0 ∷ (an_item 1 ∷ [])) true (an_item 2 ∷ [])) (192 ∷ []) ≡ stops why.UnknownEnumeration (low_bits 7 64)
great_item = refl

-- ---- OCTET STRING

octets_found : reads (an_octet_string any_size) (1 ∷ 1 ∷ []) ≡ found (octets (1 ∷ [])) []
octets_found = refl

octets_lacking : reads (an_octet_string any_size) (2 ∷ 1 ∷ []) ≡ stops why.Truncated (octet_bits (1 ∷ []))
octets_lacking = refl

length_lacking : reads (an_octet_string any_size) (128 ∷ []) ≡ stops why.Truncated (zeros 6)
length_lacking = refl

length_long : reads (an_octet_string any_size) (128 ∷ 1 ∷ 1 ∷ []) ≡ stops why.NotCanonical (octet_bits (128 ∷ 1 ∷ 1 ∷ []))
length_long = refl

octets_128 : reads (an_octet_string any_size) (128 ∷ 128 ∷ replicate 128 5) ≡ found (octets (replicate 128 5)) []
octets_128 = refl

-- no parts at all, and five of them
no_parts : reads (an_octet_string any_size) (192 ∷ 0 ∷ []) ≡ stops why.NotCanonical (octet_bits (192 ∷ 0 ∷ []))
no_parts = refl

five_parts : reads (an_octet_string any_size) (197 ∷ 0 ∷ []) ≡ stops why.NotCanonical (octet_bits (197 ∷ 0 ∷ []))
five_parts = refl

-- C1 is 16,384 items before others, as the first number or after C4; after C1 come fewer than 16,384, here none
first_part : count_from true (octet_bits (193 ∷ [])) ≡ found (part 1) []
first_part = refl

part_after_smaller : count_from false (octet_bits (193 ∷ [])) ≡ stops why.NotCanonical (octet_bits (193 ∷ []))
part_after_smaller = refl

none_after_parts : count_from false (octet_bits (0 ∷ [])) ≡ found (last 0) []
none_after_parts = refl

-- SIZE (1..2, ...): the bit 0 and one bit, or the bit 1
size_told_outside : size_from (marked 1 2) (true ∷ (false ∷ [])) ≡ found (counted true) (false ∷ [])
size_told_outside = refl

size_in_root : size_from (marked 1 2) (false ∷ (true ∷ [])) ≡ found (at_once 2) []
size_in_root = refl

-- SIZE (0..3), (0..65535), (0..65536)
sized_octets : reads (an_octet_string (from_to 0 3)) (64 ∷ 64 ∷ []) ≡ found (octets (1 ∷ [])) (zeros 6)
sized_octets = refl

narrow_octets : reads (an_octet_string (from_to 0 65535)) (0 ∷ 1 ∷ 1 ∷ []) ≡ found (octets (1 ∷ [])) []
narrow_octets = refl

wide_octets : reads (an_octet_string (from_to 0 65536)) (1 ∷ 1 ∷ []) ≡ found (octets (1 ∷ [])) []
wide_octets = refl

-- SIZE (1..2, ...): 404080 is 0102, 8180810180 is 010203; 1 before two octets isn't canonical
octets_in_root : reads (an_octet_string (marked 1 2)) (64 ∷ 64 ∷ 128 ∷ []) ≡ found (octets (1 ∷ (2 ∷ []))) (zeros 6)
octets_in_root = refl

octets_outside : reads (an_octet_string (marked 1 2)) (129 ∷ 128 ∷ 129 ∷ 1 ∷ 128 ∷ []) ≡ found (octets (1 ∷ (2 ∷ (3 ∷ [])))) (zeros 7)
octets_outside = refl

octets_told_outside : reads (an_octet_string (marked 1 2)) (129 ∷ 0 ∷ 129 ∷ 0 ∷ []) ≡ stops why.NotCanonical (low_bits 7 1 ++ octet_bits (0 ∷ 129 ∷ 0 ∷ []))
octets_told_outside = refl

-- SIZE (1..3 | 8) with a number of three bits: four octets are in the gap
octets_in_gap : reads (an_octet_string with_gap) (96 ∷ []) ≡ stops why.Outside (octet_bits (96 ∷ []))
octets_in_gap = refl

-- SIZE (2..MAX): one octet
too_few : reads (an_octet_string (bounded (Some (range (Some (pos 2)) None ∷ [])) (Some (pos 2)) None false)) (1 ∷ 7 ∷ []) ≡ stops why.Outside (octet_bits (1 ∷ 7 ∷ []))
too_few = refl

-- ---- BIT STRING

bits_found : reads (a_bit_string any_size) (3 ∷ 160 ∷ []) ≡ found (bits (true ∷ (false ∷ (true ∷ [])))) (zeros 5)
bits_found = refl

-- BIT STRING {a(0), b(9)}: 0180 is '1'B, 0280 has a trailing zero
named_found : reads (a_named_bit_string []) (1 ∷ 128 ∷ []) ≡ found (bits (true ∷ [])) (zeros 7)
named_found = refl

named_trailing : reads (a_named_bit_string []) (2 ∷ 128 ∷ []) ≡ stops why.NotCanonical (octet_bits (2 ∷ 128 ∷ []))
named_trailing = refl

-- ---- OBJECT IDENTIFIER, RELATIVE-OID

-- {2 999 3}
oid_found : reads an_object_identifier (3 ∷ 136 ∷ 55 ∷ 3 ∷ []) ≡ found (oid (2 ∷ (999 ∷ (3 ∷ [])))) []
oid_found = refl

-- {1 2 840}
oid_1_2_840 : reads an_object_identifier (3 ∷ 42 ∷ 134 ∷ 72 ∷ []) ≡ found (oid (1 ∷ (2 ∷ (840 ∷ [])))) []
oid_1_2_840 = refl

no_oid : reads an_object_identifier (0 ∷ []) ≡ stops why.Outside (octet_bits (0 ∷ []))
no_oid = refl

oid_zero_first : reads an_object_identifier (3 ∷ 42 ∷ 128 ∷ 1 ∷ []) ≡ stops why.Outside (octet_bits (3 ∷ 42 ∷ 128 ∷ 1 ∷ []))
oid_zero_first = refl

oid_not_ended : reads an_object_identifier (2 ∷ 42 ∷ 134 ∷ []) ≡ stops why.Outside (octet_bits (2 ∷ 42 ∷ 134 ∷ []))
oid_not_ended = refl

-- {1 2} and 62 numbers, and with one more
oid_64 : reads an_object_identifier (63 ∷ 42 ∷ replicate 62 1) ≡ found (oid (1 ∷ (2 ∷ replicate 62 1))) []
oid_64 = refl

oid_65 : reads an_object_identifier (64 ∷ 42 ∷ replicate 63 1) ≡ stops why.OidLimit (octet_bits (64 ∷ 42 ∷ replicate 63 1))
oid_65 = refl

-- {8571 3 2}: 04C27B0302
relative_found : reads a_relative_oid (4 ∷ 194 ∷ 123 ∷ 3 ∷ 2 ∷ []) ≡ found (relative_oid (8571 ∷ (3 ∷ (2 ∷ [])))) []
relative_found = refl

-- 2^64 - 1, and 2^64
greatest_arc : reads a_relative_oid (10 ∷ 129 ∷ 255 ∷ 255 ∷ 255 ∷ 255 ∷ 255 ∷ 255 ∷ 255 ∷ 255 ∷ 127 ∷ []) ≡ found (relative_oid (18446744073709551615 ∷ [])) []
greatest_arc = refl

great_arc : reads a_relative_oid (10 ∷ 130 ∷ 128 ∷ 128 ∷ 128 ∷ 128 ∷ 128 ∷ 128 ∷ 128 ∷ 128 ∷ 0 ∷ []) ≡ stops why.OidLimit (octet_bits (10 ∷ 130 ∷ 128 ∷ 128 ∷ 128 ∷ 128 ∷ 128 ∷ 128 ∷ 128 ∷ 128 ∷ 0 ∷ []))
great_arc = refl

-- ---- strings

-- IA5String "Hi": 0291A4
ia5 : reads (a_restricted_string Ia5 (32 ∷ (72 ∷ (105 ∷ replicate 80 127))) any_size) (2 ∷ 145 ∷ 164 ∷ []) ≡ found (text (72 ∷ (105 ∷ []))) (zeros 2)
ia5 = refl

-- PrintableString (FROM ("a".."e" | "xz")) (SIZE (2)): A0 is "xa", by places
by_place : reads (a_restricted_string Printable (97 ∷ (98 ∷ (99 ∷ (100 ∷ (101 ∷ (120 ∷ (122 ∷ []))))))) (from_to 2 2)) (160 ∷ []) ≡ found (text (120 ∷ (97 ∷ []))) (zeros 2)
by_place = refl

-- there is no place 7, so the second character has the fault
no_place : reads (a_restricted_string Printable (97 ∷ (98 ∷ (99 ∷ (100 ∷ (101 ∷ (120 ∷ (122 ∷ []))))))) (from_to 2 2)) (188 ∷ []) ≡ stops why.Outside (true ∷ (true ∷ (true ∷ zeros 2)))
no_place = refl

-- the code 1 isn't one of 0, 2, 3, which have two bits
no_code : reads (a_restricted_string Ia5 (0 ∷ (2 ∷ (3 ∷ []))) any_size) (1 ∷ 64 ∷ []) ≡ stops why.Outside (octet_bits (64 ∷ []))
no_code = refl
