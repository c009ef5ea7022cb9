-- A worked row of each rule that octets break, with the octets, and each field of a conclusion in full.
use Rattle.std.proofs.Common.{arith, lit<, ◌≡◌, ℕ, ◌+◌, ◌<◌, ◌≤◌, ⊎_elim, pos, Bool, true, false, List, [], ◌∷◌, ◌++◌, length, flat_map, replicate, refl, sym, ap, subst, ◌∙◌}
use Rattle.asn_base.specs.declared.tag.Class.{Class}
use Rattle.asn_base.specs.declared.tag.Class.TheVariants.{Universal, Application, Context, Private}
use Rattle.asn_base.specs.declared.tag.Tag.{Tag}
use Rattle.asn_base.specs.Abstract.{AbstractValue, boolean, integer, bits, octets, fields, list, alternative, end, present, bits_of_octet}
use Rattle.asn_base.specs.Tags.{TagBefore}
use Rattle.asn_base.specs.Types.{any_number, any_size, Alternative, Presence, mandatory, default, Component, Kind, a_boolean, an_integer, a_bit_string, a_named_bit_string, an_octet_string, a_sequence, a_set, a_sequence_of, a_set_of, a_choice, Resolved}
use Rattle.asn_base.specs.Same.{alike, equal}
use Rattle.encodings.specs.Header.{Header, FewestOctets, LengthOf, short, long, identifier}
use Rattle.encodings.specs.Strings.{WholeBits, cut, whole, segment, no_segment, octet_string_tag}
use Rattle.encodings.specs.Contents.{Number, TwosComplement, not_negative, FilledWithZeros, of_true, of_integer, of_octets}
use Rattle.encodings.specs.Orders.{AtMost, permutes_none, permutes_more, here, merges_none, merges_first}
use Rattle.encodings.specs.Rules.{Basic, Distinguished}
use Rattle.encodings.specs.Encoding.{innermost, closed, EncodesTo, says, leaf, no_member, member, no_element, element}
use Rattle.der_check.specs.declared.rule.RuleOfDer.{RuleOfDer}
use Rattle.der_check.specs.declared.rule.RuleOfDer.TheVariants.{FewestLengthOctets, PrimitiveString, OrderOfTags, AllBitsOfTrue, ZerosAsUnusedBits, LastNamedBit, NoDefault, OrderOfElements}
use Rattle.der_check.specs.Broken.{IsFirst, long_innermost, long_within, innermost_first, other_true, one_unused, one_unused_named, zero_last, starts_first, starts_later, falls_here, member_first, after_present, element_first, element_later, Breaks, long_length, in_segments, by_contents, by_primitive, in_sequence, in_set, by_tag, in_sequence_of, by_element, in_choice, in_member, by_default}
use Rattle.der_check.specs.Units.{IsUnit}
use Rattle.der_check.proofs.Climbing.{tag_order}
use Rattle.der_check.proofs.Split.{HeadersApart}
use Rattle.encodings.specs.proving.Fronts.{head_or_0, tail_of}

-- ---- a schema

abbrev universal : (n : ℕ) → n < 2147483648 → 0 < n → Tag
universal n h k = record { class = Universal; number = n; in_range = h; not_reserved = λ e. k }

abbrev IsContext : Class → Type 0
IsContext Universal = ⊥
IsContext Application = ⊥
IsContext Context = Unit {0}
IsContext Private = ⊥

abbrev u1 : Tag
u1 = universal 1 (lit< tt) (lit< tt)

abbrev u2 : Tag
u2 = universal 2 (lit< tt) (lit< tt)

abbrev u3 : Tag
u3 = universal 3 (lit< tt) (lit< tt)

abbrev u4 : Tag
u4 = universal 4 (lit< tt) (lit< tt)

abbrev u16 : Tag
u16 = universal 16 (lit< tt) (lit< tt)

abbrev u17 : Tag
u17 = universal 17 (lit< tt) (lit< tt)

abbrev c0 : Tag
c0 = record { class = Context; number = 0; in_range = lit< tt; not_reserved = λ e. absurd (subst IsContext e tt) }

abbrev five : AbstractValue
five = integer (pos 5)

abbrev part : ℕ → Presence → Component
part t p = record { name = (97 + t) ∷ []; type = t; presence = p }

abbrev choice_of_truth : Alternative
choice_of_truth = record { name = 97 ∷ []; type = 0 }

abbrev type : List Tag → Kind → Resolved
type ts k = record { tags = ts; kind = k }

-- BOOLEAN, INTEGER, BIT STRING, named bits, OCTET STRING, SEQUENCE { a BOOLEAN, b INTEGER DEFAULT 5 },
-- SET { b INTEGER, a BOOLEAN }, SET OF INTEGER, [0] INTEGER with an explicit tag, [0] CHOICE { a BOOLEAN } and
-- SEQUENCE OF BOOLEAN
abbrev rows : List Resolved
rows = type (u1 ∷ []) a_boolean
    ∷ type (u2 ∷ []) (an_integer any_number)
    ∷ type (u3 ∷ []) (a_bit_string any_size)
    ∷ type (u3 ∷ []) (a_named_bit_string [])
    ∷ type (u4 ∷ []) (an_octet_string any_size)
    ∷ type (u16 ∷ []) (a_sequence false (part 0 mandatory ∷ part 1 (default five) ∷ []))
    ∷ type (u17 ∷ []) (a_set false (part 1 mandatory ∷ part 0 mandatory ∷ []))
    ∷ type (u17 ∷ []) (a_set_of any_size 1)
    ∷ type (c0 ∷ u2 ∷ []) (an_integer any_number)
    ∷ type (c0 ∷ []) (a_choice (choice_of_truth ∷ []) false [])
    ∷ type (u16 ∷ []) (a_sequence_of any_size 0)
    ∷ []

-- ---- parts

short_header : (t : Tag) (c : Bool) (n : ℕ) → n < 128 → Header t c n (identifier t.class t.number c ++ (n ∷ []))
short_header t c n h = record { size = n ∷ []; is_size = short h; whole = refl }

some_octet : {n : ℕ} {p : List ℕ} → TwosComplement (pos n) p → 1 ≤ length p
some_octet (not_negative l b e h) = l

small : (n : ℕ) → n < 128 → Number (pos n) (n ∷ [])
small n h = record { is = not_negative (lit< tt) (omega arith, tt) (omega arith) (omega arith); shortest = λ p q. some_octet q }

some_size : {n : ℕ} {o : List ℕ} → LengthOf n o → 1 ≤ length o
some_size (short l) = omega arith
some_size (long l) = omega arith

-- 02 01 05 and 01 01 FF
five_is : FewestOctets u2 false 1 (2 ∷ 1 ∷ []) → EncodesTo rows Distinguished 1 five 0 (2 ∷ 1 ∷ 5 ∷ [])
unfolding identifier
five_is f = says (record { found = refl }) (leaf (of_integer (small 5 (lit< tt)))) (innermost (record { header = short_header u2 false 1 (lit< tt); fewest = f }))

fewest_two : FewestOctets u2 false 1 (2 ∷ 1 ∷ [])
unfolding identifier
fewest_two = λ p h. (let e = ap length h.whole in let s = some_size h.is_size in omega (arith, e, s))

number : (n : ℕ) → n < 128 → EncodesTo rows Basic 1 (integer (pos n)) 0 (2 ∷ 1 ∷ n ∷ [])
unfolding identifier
number n h = says (record { found = refl }) (leaf (of_integer (small n h))) (innermost (record { header = short_header u2 false 1 (lit< tt); fewest = tt }))

truth : (n : ℕ) → 0 < n → n < 256 → EncodesTo rows Basic 0 (boolean true) 0 (1 ∷ 1 ∷ n ∷ [])
unfolding identifier
truth n l h = says (record { found = refl }) (leaf (of_true l h tt)) (innermost (record { header = short_header u1 false 1 (lit< tt); fewest = tt }))

-- ---- rows

-- INTEGER 02 81 01 05: a length octet too many, at offset 1 (10.1)
long_header : Header u2 false 1 (2 ∷ 129 ∷ 1 ∷ [])
unfolding identifier
long_header = record { size = 129 ∷ 1 ∷ []; is_size = long {ds = 1 ∷ []} (record { some = lit< tt; at_most = lit< tt; octets = (lit< tt, tt); worth = refl }); whole = refl }

not_fewest : FewestOctets u2 false 1 (2 ∷ 129 ∷ 1 ∷ []) → ⊥
unfolding identifier
not_fewest f = let k = f (2 ∷ 1 ∷ []) (short_header u2 false 1 (lit< tt)) in omega (arith, k)

pub long_number : Breaks rows 1 five (2 ∷ 129 ∷ 1 ∷ 5 ∷ []) FewestLengthOctets 1
unfolding identifier
long_number = long_length (record { found = refl }) (leaf (of_integer (small 5 (lit< tt)))) (long_innermost {h = 2 ∷ 129 ∷ 1 ∷ []} {x = 5 ∷ []} long_header not_fewest)

-- the same in A0 04 02 81 01 05, within the header of an explicit tag
pub long_within_tag : Breaks rows 8 five (160 ∷ 4 ∷ 2 ∷ 129 ∷ 1 ∷ 5 ∷ []) FewestLengthOctets 3
unfolding identifier
long_within_tag = long_length (record { found = refl }) (leaf (of_integer (small 5 (lit< tt)))) (long_within {h = 160 ∷ 4 ∷ []} {y = 2 ∷ 129 ∷ 1 ∷ 5 ∷ []} (long_innermost {h = 2 ∷ 129 ∷ 1 ∷ []} {x = 5 ∷ []} long_header not_fewest) (short_header c0 true 4 (lit< tt)))

-- OCTET STRING 24 03 04 01 07, in segments (10.2)
pub segments : Breaks rows 4 (octets (7 ∷ [])) (36 ∷ 3 ∷ 4 ∷ 1 ∷ 7 ∷ []) PrimitiveString 0
unfolding identifier
segments = in_segments (record { found = refl }) (of_octets {o = 4 ∷ 1 ∷ 7 ∷ []} (cut (segment {x = 7 ∷ []} {p = 7 ∷ []} (short_header octet_string_tag false 1 (lit< tt)) (whole (lit< tt, tt)) no_segment)) tt) (innermost_first {h = 36 ∷ 3 ∷ []} (short_header u4 true 3 (lit< tt)))

-- BOOLEAN 01 01 01 (11.1)
pub true_of_one : Breaks rows 0 (boolean true) (1 ∷ 1 ∷ 1 ∷ []) AllBitsOfTrue 2
unfolding identifier
true_of_one = by_contents {x = 1 ∷ []} {o = 1 ∷ 1 ∷ 1 ∷ []} (record { found = refl }) (innermost {h = 1 ∷ 1 ∷ []} (record { header = short_header u1 false 1 (lit< tt); fewest = tt })) (by_primitive (other_true (lit< tt) (lit< tt) (λ e. let z : 1 ≡ 255 = e in omega (arith, z))))

-- BIT STRING 03 02 04 FF: the four unused bits are ones (11.2.1)
abbrev four_ones : List Bool
four_ones = true ∷ true ∷ true ∷ true ∷ []

abbrev fifth : List Bool → Bool
fifth (a ∷ b ∷ c ∷ d ∷ e ∷ s) = e
fifth s = true

four_whole : WholeBits four_ones (4 ∷ 255 ∷ [])
four_whole = record { unused = 4; octets = 255 ∷ []; filling = four_ones; few = lit< tt; are_octets = (lit< tt, tt); is = refl; bits = refl; as_many = refl }

not_filled : FilledWithZeros four_ones (4 ∷ 255 ∷ []) → ⊥
not_filled f =
    let n : 4 ≡ f.0 = ap head_or_0 f.2 in
    let o : 255 ∷ [] ≡ f.1 = ap tail_of f.2 in
    let b = ap (flat_map bits_of_octet) o ∙ f.3 ∙ ap (λ q. four_ones ++ replicate q false) (sym n) in
    let e : true ≡ false = ap fifth b in
    cc

pub ones_unused : Breaks rows 2 (bits four_ones) (3 ∷ 2 ∷ 4 ∷ 255 ∷ []) ZerosAsUnusedBits 3
unfolding identifier
ones_unused = by_contents {x = 4 ∷ 255 ∷ []} {o = 3 ∷ 2 ∷ 4 ∷ 255 ∷ []} (record { found = refl }) (innermost {h = 3 ∷ 2 ∷ []} (record { header = short_header u3 false 2 (lit< tt); fewest = tt })) (by_primitive (one_unused four_whole not_filled))

-- the same under named bits
pub ones_unused_named : Breaks rows 3 (bits four_ones) (3 ∷ 2 ∷ 4 ∷ 255 ∷ []) ZerosAsUnusedBits 3
unfolding identifier
ones_unused_named = by_contents {x = 4 ∷ 255 ∷ []} {o = 3 ∷ 2 ∷ 4 ∷ 255 ∷ []} (record { found = refl }) (innermost {h = 3 ∷ 2 ∷ []} (record { header = short_header u3 false 2 (lit< tt); fewest = tt })) (by_primitive (one_unused_named four_whole not_filled))

-- named bits 03 02 06 80: the last bit is a zero (11.2.2)
pub zero_at_end : Breaks rows 3 (bits (true ∷ false ∷ [])) (3 ∷ 2 ∷ 6 ∷ 128 ∷ []) LastNamedBit 3
unfolding identifier
zero_at_end = by_contents {x = 6 ∷ 128 ∷ []} {o = 3 ∷ 2 ∷ 6 ∷ 128 ∷ []} (record { found = refl }) (innermost {h = 3 ∷ 2 ∷ []} (record { header = short_header u3 false 2 (lit< tt); fewest = tt }))
    (by_primitive (zero_last (record { unused = 6; octets = 128 ∷ []; filling = false ∷ false ∷ false ∷ false ∷ false ∷ false ∷ []; few = lit< tt; are_octets = (lit< tt, tt); is = refl; bits = refl; as_many = refl }) (6, 128 ∷ [], refl, refl) (λ e. e (true ∷ []) refl)))

-- SEQUENCE 30 06 01 01 FF 02 01 05: b has its DEFAULT (11.5)
pub encoded_default : Breaks rows 5 (fields (present (boolean true) (present five end))) (48 ∷ 6 ∷ 1 ∷ 1 ∷ 255 ∷ 2 ∷ 1 ∷ 5 ∷ []) NoDefault 5
unfolding identifier
encoded_default = by_contents {x = 1 ∷ 1 ∷ 255 ∷ 2 ∷ 1 ∷ 5 ∷ []} {o = 48 ∷ 6 ∷ 1 ∷ 1 ∷ 255 ∷ 2 ∷ 1 ∷ 5 ∷ []} (record { found = refl }) (innermost {h = 48 ∷ 6 ∷ []} (record { header = short_header u16 true 6 (lit< tt); fewest = tt }))
    (in_sequence {xs = (1 ∷ 1 ∷ 255 ∷ []) ∷ (2 ∷ 1 ∷ 5 ∷ []) ∷ []} {us = []} (member (truth 255 (lit< tt) (lit< tt)) tt (member (number 5 (lit< tt)) tt no_member)) closed (after_present member_first)
    (by_default (five_is fewest_two) (five, refl, alike (record { found = refl }) (equal tt))))

-- 30 06 01 01 01 02 01 03: the component a breaks a rule
pub in_component : Breaks rows 5 (fields (present (boolean true) (present (integer (pos 3)) end))) (48 ∷ 6 ∷ 1 ∷ 1 ∷ 1 ∷ 2 ∷ 1 ∷ 3 ∷ []) AllBitsOfTrue 4
unfolding identifier
in_component = by_contents {x = 1 ∷ 1 ∷ 1 ∷ 2 ∷ 1 ∷ 3 ∷ []} {o = 48 ∷ 6 ∷ 1 ∷ 1 ∷ 1 ∷ 2 ∷ 1 ∷ 3 ∷ []} (record { found = refl }) (innermost {h = 48 ∷ 6 ∷ []} (record { header = short_header u16 true 6 (lit< tt); fewest = tt }))
    (in_sequence {xs = (1 ∷ 1 ∷ 1 ∷ []) ∷ (2 ∷ 1 ∷ 3 ∷ []) ∷ []} {us = []} (member (truth 1 (lit< tt) (lit< tt)) tt (member (number 3 (lit< tt)) tt no_member)) closed member_first (in_member true_of_one))

-- SET 31 06 02 01 05 01 01 FF: BOOLEAN comes after INTEGER (10.3)
unit_two : IsUnit u2 (2 ∷ 1 ∷ 5 ∷ [])
unfolding identifier
unit_two = record { constructed = false; header = 2 ∷ 1 ∷ []; contents = 5 ∷ []; is_header = short_header u2 false 1 (lit< tt); whole = refl }

unit_one : IsUnit u1 (1 ∷ 1 ∷ 255 ∷ [])
unfolding identifier
unit_one = record { constructed = false; header = 1 ∷ 1 ∷ []; contents = 255 ∷ []; is_header = short_header u1 false 1 (lit< tt); whole = refl }

not_before : TagBefore u2 u1 → ⊥
not_before h = ⊎_elim (λ a. omega (arith, a)) (λ a. let b = a.1 in omega (arith, b)) h

pub tags_descend : HeadersApart → Breaks rows 6 (fields (present five (present (boolean true) end))) (49 ∷ 6 ∷ 2 ∷ 1 ∷ 5 ∷ 1 ∷ 1 ∷ 255 ∷ []) OrderOfTags 5
unfolding identifier
tags_descend law = by_contents {x = 2 ∷ 1 ∷ 5 ∷ 1 ∷ 1 ∷ 255 ∷ []} {o = 49 ∷ 6 ∷ 2 ∷ 1 ∷ 5 ∷ 1 ∷ 1 ∷ 255 ∷ []} (record { found = refl }) (innermost {h = 49 ∷ 6 ∷ []} (record { header = short_header u17 true 6 (lit< tt); fewest = tt }))
    (by_tag {zs = (2 ∷ 1 ∷ 5 ∷ []) ∷ (1 ∷ 1 ∷ 255 ∷ []) ∷ []} {us = []} {ys = (2 ∷ 1 ∷ 5 ∷ []) ∷ (1 ∷ 1 ∷ 255 ∷ []) ∷ []} (member (number 5 (lit< tt)) tt (member (truth 255 (lit< tt) (lit< tt)) tt no_member)) (permutes_more (permutes_more permutes_none here) here) closed (merges_first (merges_first merges_none))
    (falls_here (λ r. not_before (tag_order law unit_two unit_one r))) (starts_later starts_first))

-- 31 06 02 01 05 01 01 01: the component a breaks a rule too, at a later octet
pub in_set_component : Breaks rows 6 (fields (present five (present (boolean true) end))) (49 ∷ 6 ∷ 2 ∷ 1 ∷ 5 ∷ 1 ∷ 1 ∷ 1 ∷ []) AllBitsOfTrue 7
unfolding identifier
in_set_component = by_contents {x = 2 ∷ 1 ∷ 5 ∷ 1 ∷ 1 ∷ 1 ∷ []} {o = 49 ∷ 6 ∷ 2 ∷ 1 ∷ 5 ∷ 1 ∷ 1 ∷ 1 ∷ []} (record { found = refl }) (innermost {h = 49 ∷ 6 ∷ []} (record { header = short_header u17 true 6 (lit< tt); fewest = tt }))
    (in_set {zs = (2 ∷ 1 ∷ 5 ∷ []) ∷ (1 ∷ 1 ∷ 1 ∷ []) ∷ []} {us = []} {ys = (2 ∷ 1 ∷ 5 ∷ []) ∷ (1 ∷ 1 ∷ 1 ∷ []) ∷ []} (member (number 5 (lit< tt)) tt (member (truth 1 (lit< tt) (lit< tt)) tt no_member)) (permutes_more (permutes_more permutes_none here) here) closed (merges_first (merges_first merges_none))
    (after_present member_first) (starts_later starts_first) (in_member true_of_one))

-- SET OF INTEGER 31 06 02 01 05 02 01 03: 3 comes after 5 (11.6)
not_at_most : AtMost (2 ∷ 1 ∷ 5 ∷ []) (2 ∷ 1 ∷ 3 ∷ []) → ⊥
not_at_most h = ⊎_elim (λ a. omega (arith, a)) (λ a. ⊎_elim (λ b. omega (arith, b)) (λ b. ⊎_elim (λ d. omega (arith, d)) (λ d. let e = d.0 in omega (arith, e)) b.1) a.1) h

pub elements_descend : Breaks rows 7 (list (present five (present (integer (pos 3)) end))) (49 ∷ 6 ∷ 2 ∷ 1 ∷ 5 ∷ 2 ∷ 1 ∷ 3 ∷ []) OrderOfElements 5
unfolding identifier
elements_descend = by_contents {x = 2 ∷ 1 ∷ 5 ∷ 2 ∷ 1 ∷ 3 ∷ []} {o = 49 ∷ 6 ∷ 2 ∷ 1 ∷ 5 ∷ 2 ∷ 1 ∷ 3 ∷ []} (record { found = refl }) (innermost {h = 49 ∷ 6 ∷ []} (record { header = short_header u17 true 6 (lit< tt); fewest = tt }))
    (by_element {xs = (2 ∷ 1 ∷ 5 ∷ []) ∷ (2 ∷ 1 ∷ 3 ∷ []) ∷ []} (element (number 5 (lit< tt)) (element (number 3 (lit< tt)) no_element)) (falls_here not_at_most))

-- SEQUENCE OF BOOLEAN 30 06 01 01 FF 01 01 01: the second element breaks a rule
pub in_element : Breaks rows 10 (list (present (boolean true) (present (boolean true) end))) (48 ∷ 6 ∷ 1 ∷ 1 ∷ 255 ∷ 1 ∷ 1 ∷ 1 ∷ []) AllBitsOfTrue 7
unfolding identifier
in_element = by_contents {x = 1 ∷ 1 ∷ 255 ∷ 1 ∷ 1 ∷ 1 ∷ []} {o = 48 ∷ 6 ∷ 1 ∷ 1 ∷ 255 ∷ 1 ∷ 1 ∷ 1 ∷ []} (record { found = refl }) (innermost {h = 48 ∷ 6 ∷ []} (record { header = short_header u16 true 6 (lit< tt); fewest = tt }))
    (in_sequence_of {xs = (1 ∷ 1 ∷ 255 ∷ []) ∷ (1 ∷ 1 ∷ 1 ∷ []) ∷ []} (element (truth 255 (lit< tt) (lit< tt)) (element (truth 1 (lit< tt) (lit< tt)) no_element)) (element_later element_first) true_of_one)

-- [0] CHOICE { a BOOLEAN } A0 03 01 01 01: the alternative breaks a rule
pub in_alternative : Breaks rows 9 (alternative 0 (boolean true)) (160 ∷ 3 ∷ 1 ∷ 1 ∷ 1 ∷ []) AllBitsOfTrue 4
unfolding identifier
in_alternative = by_contents {x = 1 ∷ 1 ∷ 1 ∷ []} {o = 160 ∷ 3 ∷ 1 ∷ 1 ∷ 1 ∷ []} (record { found = refl }) (innermost {h = 160 ∷ 3 ∷ []} (record { header = short_header c0 true 3 (lit< tt); fewest = tt })) (in_choice {a = choice_of_truth} refl true_of_one)

-- ---- fields

pub first_broken : (B : RuleOfDer → ℕ → Type 0) (r : RuleOfDer) (n : ℕ) → IsFirst B r n → B r n
first_broken B r n h = h.broken

pub first_none : (B : RuleOfDer → ℕ → Type 0) (r q : RuleOfDer) (n m : ℕ) → IsFirst B r n → B q m → n ≤ m
first_none B r q n m h b = h.none_before q m b
