-- Worked rows: octets that are encodings.
use Rattle.std.proofs.Common.{arith, lit<, ◌≡◌, ℕ, ◌<◌, ◌≤◌, Bool, true, false, List, [], ◌∷◌, ◌++◌, length, refl, ap, subst}
use Rattle.std.specs.Prelude.{ℤ, pos, negsuc}
use Rattle.asn_base.specs.declared.tag.Tag.{Tag}
use Rattle.asn_base.specs.Abstract.{AbstractValue, boolean, integer, enumerated, bits, octets, text, null, oid, fields, list, end, absent, present}
use Rattle.asn_base.specs.Types.{Presence, mandatory, optional, default, addition}
use Rattle.asn_base.specs.Typed.{arcs}
use Rattle.asn_base.specs.Same.{Alike, alike, equal, zeros, alike_set_of, alike_sequence, no_components, second_default, pair, none_left, here, there}
use Rattle.encodings.specs.Rules.{Basic, Distinguished}
use Rattle.encodings.specs.Header.{identifier, Header, short, long}
use Rattle.encodings.specs.Fewest.{shortest_header}
use Rattle.encodings.specs.Strings.{whole, cut, no_segment, segment, WholeBits, whole_bits, cut_bits, last_segment, bit_segment, octet_string_tag, bit_string_tag}
use Rattle.encodings.specs.Contents.{TwosComplement, not_negative, negative, Number, EndsInOne, of_true, of_integer, of_enumerated, of_bits, of_named_bits, of_octets, of_null, of_oid, of_utf8, of_restricted}
use Rattle.encodings.specs.Encoding.{innermost, outer, closed, EncodesTo, says, leaf, sequence, no_member, left_out, member}
use Rattle.encodings.proofs.Headers.{shortest_is}
use Rattle.encodings.proofs.RowTypes.{rows, u1, u2, u3, u4, u5, u6, u10, u12, u16, u18, c1, c2}

-- a short header of any form and length
pub short_header : (t : Tag) (c : Bool) (n : ℕ) → n < 128 → Header t c n (identifier t.class t.number c ++ (n ∷ []))
short_header t c n h = record { size = n ∷ []; is_size = short h; whole = refl }

-- an octet below 128 is a number
pub small : (n : ℕ) → n < 128 → Number (pos n) (n ∷ [])
small n h = record {
  is = not_negative (lit< tt) (omega arith, tt) (omega arith) (omega arith);
  shortest = λ p q. one p q;
}
  where
    one : (p : List ℕ) → TwosComplement (pos n) p → 1 ≤ length p
    one p (not_negative l b e h) = l

pub some_octet : {z : ℤ} {p : List ℕ} → TwosComplement z p → 1 ≤ length p
some_octet (not_negative l b g h) = l
some_octet (negative l b g h) = l

-- a number that one octet can't hold has two octets, the fewest
two_octets : (z : ℤ) (o : List ℕ) → length o ≡ 2 → TwosComplement z o → ((x : ℕ) → TwosComplement z (x ∷ []) → ⊥) → Number z o
two_octets z o e a f = record { is = a; shortest = λ p q. by p q }
  where
    by : (p : List ℕ) → TwosComplement z p → length o ≤ length p
    by [] q = absurd (let l = some_octet q in omega arith)
    by (x ∷ []) q = absurd (f x q)
    by (x ∷ y ∷ p) q = omega arith

-- 128 is 0080, -129 is FF7F
pub is_128 : Number (pos 128) (0 ∷ 128 ∷ [])
is_128 = two_octets (pos 128) (0 ∷ 128 ∷ []) refl (not_negative (lit< tt) (lit< tt, (lit< tt, tt)) refl (lit< tt)) no_one
  where
    no_one : (x : ℕ) → TwosComplement (pos 128) (x ∷ []) → ⊥
    no_one x (not_negative l b e h) = omega arith

pub is_minus_129 : Number (negsuc 128) (255 ∷ 127 ∷ [])
is_minus_129 = two_octets (negsuc 128) (255 ∷ 127 ∷ []) refl (negative (lit< tt) (lit< tt, (lit< tt, tt)) refl (lit< tt)) no_one
  where
    no_one : (x : ℕ) → TwosComplement (negsuc 128) (x ∷ []) → ⊥
    no_one x (negative l b e h) = omega arith

pub is_256 : Number (pos 256) (1 ∷ 0 ∷ [])
is_256 = two_octets (pos 256) (1 ∷ 0 ∷ []) refl (not_negative (lit< tt) (lit< tt, (lit< tt, tt)) refl (lit< tt)) no_one
  where
    no_one : (x : ℕ) → TwosComplement (pos 256) (x ∷ []) → ⊥
    no_one x (not_negative l b e h) = omega arith

pub is_minus_1 : Number (negsuc 0) (255 ∷ [])
is_minus_1 = record { is = negative (lit< tt) (lit< tt, tt) refl (lit< tt); shortest = λ p q. one p q }
  where
    one : (p : List ℕ) → TwosComplement (negsuc 0) p → 1 ≤ length p
    one p (negative l b e h) = l

-- BOOLEAN TRUE is 0101FF, and by the basic rules 010101 too
pub true_is : EncodesTo rows Distinguished 0 (boolean true) 0 (1 ∷ 1 ∷ 255 ∷ [])
unfolding identifier shortest_header
true_is = says (record { found = refl }) (leaf (of_true (lit< tt) (lit< tt) refl)) (innermost (shortest_is u1 false 1 (lit< tt)))

pub true_too : EncodesTo rows Basic 0 (boolean true) 0 (1 ∷ 1 ∷ 1 ∷ [])
unfolding identifier
true_too = says (record { found = refl }) (leaf (of_true (lit< tt) (lit< tt) tt)) (innermost (record { header = short_header u1 false 1 (lit< tt); fewest = tt }))

-- INTEGER 128 is 02020080, -129 is 0202FF7F
pub integer_128 : EncodesTo rows Distinguished 1 (integer (pos 128)) 0 (2 ∷ 2 ∷ 0 ∷ 128 ∷ [])
unfolding identifier shortest_header
integer_128 = says (record { found = refl }) (leaf (of_integer is_128)) (innermost (shortest_is u2 false 2 (lit< tt)))

pub integer_minus_129 : EncodesTo rows Distinguished 1 (integer (negsuc 128)) 0 (2 ∷ 2 ∷ 255 ∷ 127 ∷ [])
unfolding identifier shortest_header
integer_minus_129 = says (record { found = refl }) (leaf (of_integer is_minus_129)) (innermost (shortest_is u2 false 2 (lit< tt)))

-- 02840000000105: a length in the long form with leading zeros
pub long_length : EncodesTo rows Basic 1 (integer (pos 5)) 0 (2 ∷ 132 ∷ 0 ∷ 0 ∷ 0 ∷ 1 ∷ 5 ∷ [])
unfolding identifier
long_length = says (record { found = refl }) (leaf (of_integer (small 5 (lit< tt)))) (innermost (record {
  header = record { size = 132 ∷ 0 ∷ 0 ∷ 0 ∷ 1 ∷ []; is_size = long {ds = 0 ∷ 0 ∷ 0 ∷ 1 ∷ []} (record { some = lit< tt; at_most = lit< tt; octets = (lit< tt, (lit< tt, (lit< tt, (lit< tt, tt)))); worth = refl }); whole = refl };
  fewest = tt;
}))

-- the empty bit string is 030100, and by the basic rules 2303030100 too
empty_bits : WholeBits [] (0 ∷ [])
empty_bits = record { unused = 0; octets = []; filling = []; few = lit< tt; are_octets = tt; is = refl; bits = refl; as_many = refl }

pub no_bits : EncodesTo rows Distinguished 2 (bits []) 0 (3 ∷ 1 ∷ 0 ∷ [])
unfolding identifier shortest_header
no_bits = says (record { found = refl }) (leaf (of_bits (whole_bits empty_bits) refl (0, [], refl, refl))) (innermost (shortest_is u3 false 1 (lit< tt)))

pub no_bits_cut : EncodesTo rows Basic 2 (bits []) 0 (35 ∷ 3 ∷ 3 ∷ 1 ∷ 0 ∷ [])
unfolding identifier
no_bits_cut = says (record { found = refl }) (leaf (of_bits (cut_bits (last_segment (short_header bit_string_tag false 1 (lit< tt)) (whole_bits empty_bits))) tt tt)) (innermost (record { header = short_header u3 true 3 (lit< tt); fewest = tt }))

-- 2308030200AA030204F0 says '101010101111'B
pub bits_cut : EncodesTo rows Basic 2 (bits (true ∷ false ∷ true ∷ false ∷ true ∷ false ∷ true ∷ false ∷ true ∷ true ∷ true ∷ true ∷ [])) 0 (35 ∷ 8 ∷ 3 ∷ 2 ∷ 0 ∷ 170 ∷ 3 ∷ 2 ∷ 4 ∷ 240 ∷ [])
unfolding identifier
bits_cut = says (record { found = refl }) (leaf (of_bits (cut_bits
    (bit_segment {x = true ∷ false ∷ true ∷ false ∷ true ∷ false ∷ true ∷ false ∷ []} {s = true ∷ true ∷ true ∷ true ∷ []} (short_header bit_string_tag false 2 (lit< tt)) (whole_bits (record { unused = 0; octets = 170 ∷ []; filling = []; few = lit< tt; are_octets = (lit< tt, tt); is = refl; bits = refl; as_many = refl })) refl
    (last_segment (short_header bit_string_tag false 2 (lit< tt)) (whole_bits (record { unused = 4; octets = 240 ∷ []; filling = false ∷ false ∷ false ∷ false ∷ []; few = lit< tt; are_octets = (lit< tt, tt); is = refl; bits = refl; as_many = refl }))))) tt tt))
    (innermost (record { header = short_header u3 true 8 (lit< tt); fewest = tt }))

-- under named bits '1' and '1000000000'B are alike, and 03020780 is the encoding of the former
one_bit : WholeBits (true ∷ []) (7 ∷ 128 ∷ [])
one_bit = record { unused = 7; octets = 128 ∷ []; filling = false ∷ false ∷ false ∷ false ∷ false ∷ false ∷ false ∷ []; few = lit< tt; are_octets = (lit< tt, tt); is = refl; bits = refl; as_many = refl }

ends_in_one : EndsInOne (true ∷ [])
ends_in_one [] e = let h : true ≡ false = ap head e in cc
  where
    head : List Bool → Bool
    head [] = false
    head (b ∷ bs) = b
ends_in_one (x ∷ t) e = let l = ap length e in omega (arith, length_append t)
  where
    length_append : (t : List Bool) → 1 ≤ length (t ++ false ∷ [])
    length_append [] = lit< tt
    length_append (x ∷ t) = omega arith

pub named_bits : EncodesTo rows Distinguished 4 (bits (true ∷ [])) 0 (3 ∷ 2 ∷ 7 ∷ 128 ∷ [])
unfolding identifier shortest_header
named_bits = says (record { found = refl }) (leaf (of_named_bits (whole_bits one_bit) refl (7, 128 ∷ [], refl, refl) ends_in_one)) (innermost (shortest_is u3 false 2 (lit< tt)))

pub named_zeros : Alike rows 4 (bits (true ∷ false ∷ false ∷ false ∷ false ∷ false ∷ false ∷ false ∷ false ∷ false ∷ [])) (bits (true ∷ []))
named_zeros = alike (record { found = refl }) (zeros 0 9 refl)

-- 240604010104010 2 in segments says '0102'H
pub octets_cut : EncodesTo rows Basic 3 (octets (1 ∷ 2 ∷ [])) 0 (36 ∷ 6 ∷ 4 ∷ 1 ∷ 1 ∷ 4 ∷ 1 ∷ 2 ∷ [])
unfolding identifier
octets_cut = says (record { found = refl }) (leaf (of_octets (cut (segment {x = 1 ∷ []} {p = 1 ∷ []} (short_header octet_string_tag false 1 (lit< tt)) (whole (lit< tt, tt)) (segment {x = 2 ∷ []} {p = 2 ∷ []} (short_header octet_string_tag false 1 (lit< tt)) (whole (lit< tt, tt)) no_segment))) tt))
    (innermost (record { header = short_header u4 true 6 (lit< tt); fewest = tt }))

-- NULL is 0500; {1 2 840 113549} is 06062A864886F70D; an item after the marker is 0A0102
pub null_is : EncodesTo rows Distinguished 5 null 0 (5 ∷ 0 ∷ [])
unfolding identifier shortest_header
null_is = says (record { found = refl }) (leaf of_null) (innermost (shortest_is u5 false 0 (lit< tt)))

pub oid_is : EncodesTo rows Distinguished 6 (oid (1 ∷ 2 ∷ 840 ∷ 113549 ∷ [])) 0 (6 ∷ 6 ∷ 42 ∷ 134 ∷ 72 ∷ 134 ∷ 247 ∷ 13 ∷ [])
unfolding identifier shortest_header
oid_is = says (record { found = refl }) (leaf (of_oid (arcs (lit< tt) (λ h. lit< tt) (lit< tt) (lit< tt, (lit< tt, tt)) (lit< tt)))) (innermost (shortest_is u6 false 6 (lit< tt)))

pub item_is : EncodesTo rows Distinguished 21 (enumerated (pos 2)) 0 (10 ∷ 1 ∷ 2 ∷ [])
unfolding identifier shortest_header
item_is = says (record { found = refl }) (leaf (of_enumerated (small 2 (lit< tt)))) (innermost (shortest_is u10 false 1 (lit< tt)))

-- 2C060401C30401A9: segments of a UTF8String may cut a character; "9 0" of NumericString is 1203392030
pub character_cut : EncodesTo rows Basic 19 (text (195 ∷ 169 ∷ [])) 0 (44 ∷ 6 ∷ 4 ∷ 1 ∷ 195 ∷ 4 ∷ 1 ∷ 169 ∷ [])
unfolding identifier
character_cut = says (record { found = refl }) (leaf (of_utf8 (cut (segment {x = 195 ∷ []} {p = 195 ∷ []} (short_header octet_string_tag false 1 (lit< tt)) (whole (lit< tt, tt)) (segment {x = 169 ∷ []} {p = 169 ∷ []} (short_header octet_string_tag false 1 (lit< tt)) (whole (lit< tt, tt)) no_segment))) tt))
    (innermost (record { header = short_header u12 true 6 (lit< tt); fewest = tt }))

pub digits_are : EncodesTo rows Distinguished 20 (text (57 ∷ 32 ∷ 48 ∷ [])) 0 (18 ∷ 3 ∷ 57 ∷ 32 ∷ 48 ∷ [])
unfolding identifier shortest_header
digits_are = says (record { found = refl }) (leaf (of_restricted (whole (lit< tt, (lit< tt, (lit< tt, tt)))) refl)) (innermost (shortest_is u18 false 3 (lit< tt)))

-- an explicit tag before an implicit one: A1038201FF
pub two_tags : EncodesTo rows Distinguished 12 (boolean true) 0 (161 ∷ 3 ∷ 130 ∷ 1 ∷ 255 ∷ [])
unfolding identifier shortest_header
two_tags = says (record { found = refl }) (leaf (of_true (lit< tt) (lit< tt) refl)) (outer (innermost (shortest_is c2 false 1 (lit< tt))) (shortest_is c1 true 3 (lit< tt)))

pub must_stand : (d : AbstractValue) → mandatory ≡ default d → ⊥
must_stand d e = subst IsMandatory e tt
  where
    IsMandatory : Presence → Type 0
    IsMandatory mandatory = Unit {0}
    IsMandatory optional = ⊥
    IsMandatory (default d) = ⊥
    IsMandatory (addition o g) = ⊥

-- SEQUENCE {a BOOLEAN} with TRUE is 30030101FF
pub sequence_is : EncodesTo rows Distinguished 13 (fields (present (boolean true) end)) 0 (48 ∷ 3 ∷ 1 ∷ 1 ∷ 255 ∷ [])
unfolding identifier shortest_header
sequence_is = says (record { found = refl }) (sequence (member true_is (λ z d. must_stand d.0 d.1) no_member) closed) (innermost (shortest_is u16 true 3 (lit< tt)))

-- {a {2,1}} with the DEFAULT {1,2} is alike {} and encoded as 3000
pub default_absent : EncodesTo rows Distinguished 8 (fields (absent end)) 0 (48 ∷ 0 ∷ [])
unfolding identifier shortest_header
default_absent = says (record { found = refl }) (sequence (left_out refl no_member) closed) (innermost (shortest_is u16 true 0 (lit< tt)))

pub default_alike : Alike rows 8 (fields (present (list (present (integer (pos 2)) (present (integer (pos 1)) end))) end)) (fields (absent end))
default_alike = alike (record { found = refl }) (alike_sequence (second_default refl (alike (record { found = refl })
    (alike_set_of (pair (alike (record { found = refl }) (equal tt)) (pair (alike (record { found = refl }) (equal tt)) none_left here) (there here)))) no_components))
