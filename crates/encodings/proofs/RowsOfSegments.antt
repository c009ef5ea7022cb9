-- Worked rows of lawful spellings: segments, unused bits, unknown additions, and their levels.
use Rattle.std.proofs.Common.{arith, lit<, ◌≡◌, true, false, [], ◌∷◌, refl, ap}
use Rattle.asn_base.specs.Abstract.{bits, octets, text, oid, fields, end, absent}
use Rattle.asn_base.specs.Typed.{arcs}
use Rattle.asn_base.specs.Tags.{First}
use Rattle.encodings.specs.Rules.{Basic, Distinguished}
use Rattle.encodings.specs.Header.{identifier, long}
use Rattle.encodings.specs.Fewest.{shortest_header}
use Rattle.encodings.specs.Strings.{whole, cut, no_segment, segment, whole_bits, cut_bits, last_segment, octet_string_tag, bit_string_tag}
use Rattle.encodings.specs.Contents.{of_bits, of_named_bits, of_octets, of_oid, of_restricted}
use Rattle.encodings.specs.Encoding.{innermost, extensible, no_unknown, unknown, EncodesTo, says, leaf, sequence, no_member, left_out}
use Rattle.encodings.specs.Levels.{levels}
use Rattle.encodings.proofs.Headers.{shortest_is}
use Rattle.encodings.proofs.RowTypes.{rows, u3, u4, u6, u16, u18, c1, first_only}
use Rattle.encodings.proofs.RowsThatHold.{short_header}

-- 2400: no segment
pub no_octets_cut : EncodesTo rows Basic 3 (octets []) 0 (36 ∷ 0 ∷ [])
unfolding identifier
no_octets_cut = says (record { found = refl }) (leaf (of_octets (cut no_segment) tt)) (innermost (record { header = short_header u4 true 0 (lit< tt); fewest = tt }))

-- 2402 0400: an empty segment
pub empty_segment : EncodesTo rows Basic 3 (octets []) 0 (36 ∷ 2 ∷ 4 ∷ 0 ∷ [])
unfolding identifier
empty_segment = says (record { found = refl }) (leaf (of_octets (cut (segment {x = []} {p = []} (short_header octet_string_tag false 0 (lit< tt)) (whole tt) no_segment)) tt)) (innermost (record { header = short_header u4 true 2 (lit< tt); fewest = tt }))

-- 2406 2404 2402 0400: segments in segments
pub nested_segments : EncodesTo rows Basic 3 (octets (7 ∷ [])) 0 (36 ∷ 7 ∷ 36 ∷ 5 ∷ 36 ∷ 3 ∷ 4 ∷ 1 ∷ 7 ∷ [])
unfolding identifier
nested_segments = says (record { found = refl })
    (leaf (of_octets (cut (segment {x = 7 ∷ []} {p = 36 ∷ 3 ∷ 4 ∷ 1 ∷ 7 ∷ []} (short_header octet_string_tag true 5 (lit< tt))
    (cut (segment {x = 7 ∷ []} {p = 4 ∷ 1 ∷ 7 ∷ []} (short_header octet_string_tag true 3 (lit< tt))
    (cut (segment {x = 7 ∷ []} {p = 7 ∷ []} (short_header octet_string_tag false 1 (lit< tt)) (whole (lit< tt, tt)) no_segment)) no_segment)) no_segment)) tt))
    (innermost (record { header = short_header u4 true 7 (lit< tt); fewest = tt }))

-- 030204FF: unused bits of any value
pub unused_ones : EncodesTo rows Basic 2 (bits (true ∷ true ∷ true ∷ true ∷ [])) 0 (3 ∷ 2 ∷ 4 ∷ 255 ∷ [])
unfolding identifier
unused_ones = says (record { found = refl }) (leaf (of_bits (whole_bits (record { unused = 4; octets = 255 ∷ []; filling = true ∷ true ∷ true ∷ true ∷ []; few = lit< tt; are_octets = (lit< tt, tt); is = refl; bits = refl; as_many = refl })) tt tt)) (innermost (record { header = short_header u3 false 2 (lit< tt); fewest = tt }))

-- 03020680 under named bits
pub named_trailing : EncodesTo rows Basic 4 (bits (true ∷ false ∷ [])) 0 (3 ∷ 2 ∷ 6 ∷ 128 ∷ [])
unfolding identifier
named_trailing = says (record { found = refl }) (leaf (of_named_bits (whole_bits (record { unused = 6; octets = 128 ∷ []; filling = false ∷ false ∷ false ∷ false ∷ false ∷ false ∷ []; few = lit< tt; are_octets = (lit< tt, tt); is = refl; bits = refl; as_many = refl })) tt tt tt)) (innermost (record { header = short_header u3 false 2 (lit< tt); fewest = tt }))

-- segments of bits in segments
pub nested_bits : EncodesTo rows Basic 2 (bits (true ∷ [])) 0 (35 ∷ 6 ∷ 35 ∷ 4 ∷ 3 ∷ 2 ∷ 7 ∷ 128 ∷ [])
unfolding identifier
nested_bits = says (record { found = refl }) (leaf (of_bits (cut_bits (last_segment (short_header bit_string_tag true 4 (lit< tt)) (cut_bits (last_segment (short_header bit_string_tag false 2 (lit< tt))
    (whole_bits (record { unused = 7; octets = 128 ∷ []; filling = false ∷ false ∷ false ∷ false ∷ false ∷ false ∷ false ∷ []; few = lit< tt; are_octets = (lit< tt, tt); is = refl; bits = refl; as_many = refl })))))) tt tt)) (innermost (record { header = short_header u3 true 6 (lit< tt); fewest = tt }))

-- a segment with a long length: 2406 04820001 07
pub long_segment : EncodesTo rows Basic 3 (octets (7 ∷ [])) 0 (36 ∷ 5 ∷ 4 ∷ 130 ∷ 0 ∷ 1 ∷ 7 ∷ [])
unfolding identifier
long_segment = says (record { found = refl }) (leaf (of_octets (cut (segment {c = false} {x = 7 ∷ []} {p = 7 ∷ []} (record { size = 130 ∷ 0 ∷ 1 ∷ []; is_size = long {ds = 0 ∷ 1 ∷ []} (record { some = lit< tt; at_most = lit< tt; octets = (lit< tt, (lit< tt, tt)); worth = refl }); whole = refl }) (whole (lit< tt, tt)) no_segment)) tt)) (innermost (record { header = short_header u4 true 5 (lit< tt); fewest = tt }))

-- {2 999 3} is 0603883703
pub oid_2_999 : EncodesTo rows Distinguished 6 (oid (2 ∷ 999 ∷ 3 ∷ [])) 0 (6 ∷ 3 ∷ 136 ∷ 55 ∷ 3 ∷ [])
unfolding identifier shortest_header
oid_2_999 = says (record { found = refl }) (leaf (of_oid (arcs (lit< tt) (λ h. absurd (omega arith)) (lit< tt) (lit< tt, tt) (lit< tt)))) (innermost (shortest_is u6 false 3 (lit< tt)))

-- a restricted string in segments, with its own tag outside
pub restricted_cut : EncodesTo rows Basic 20 (text (57 ∷ 32 ∷ [])) 0 (50 ∷ 6 ∷ 4 ∷ 1 ∷ 57 ∷ 4 ∷ 1 ∷ 32 ∷ [])
unfolding identifier
restricted_cut = says (record { found = refl }) (leaf (of_restricted (cut (segment {x = 57 ∷ []} {p = 57 ∷ []} (short_header octet_string_tag false 1 (lit< tt)) (whole (lit< tt, tt)) (segment {x = 32 ∷ []} {p = 32 ∷ []} (short_header octet_string_tag false 1 (lit< tt)) (whole (lit< tt, tt)) no_segment))) tt)) (innermost (record { header = short_header u18 true 6 (lit< tt); fewest = tt }))

-- two unknown additions with the same tag, one constructed: 3007 810100 A102 FFFF is not looked into
other : First rows 14 c1 → ⊥
other f = let e = ap (λ g. g.number) (first_only {t = 14} refl f) in omega arith

pub two_unknown : EncodesTo rows Basic 15 (fields (absent end)) 2 (48 ∷ 7 ∷ 129 ∷ 1 ∷ 0 ∷ 161 ∷ 2 ∷ 255 ∷ 255 ∷ [])
unfolding identifier
two_unknown = says (record { found = refl })
    (sequence (left_out refl no_member)
    (extensible (unknown {g = c1} {c = false} {h = 129 ∷ 1 ∷ []} (0 ∷ []) (short_header c1 false 1 (lit< tt)) (lit< tt, tt) ((λ f. other f), tt)
    (unknown {g = c1} {c = true} {h = 161 ∷ 2 ∷ []} (255 ∷ 255 ∷ []) (short_header c1 true 2 (lit< tt)) (lit< tt, (lit< tt, tt)) ((λ f. other f), tt) no_unknown))))
    (innermost (record { header = short_header u16 true 7 (lit< tt); fewest = tt }))

-- levels of real derivations

levels_nested : levels nested_segments ≡ 4
unfolding nested_segments
levels_nested = refl

levels_of_unknown : levels two_unknown ≡ 2
unfolding two_unknown
levels_of_unknown = refl

levels_of_bits : levels nested_bits ≡ 3
unfolding nested_bits
levels_of_bits = refl
