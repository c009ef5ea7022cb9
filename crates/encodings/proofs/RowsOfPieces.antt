-- Worked rows: segments of strings with segments in them, and pieces and lists of encodings that say nothing.
use Rattle.std.proofs.Common.{arith, lit<, ◌≡◌, ℕ, suc, Bool, true, false, List, [], ◌∷◌, ◌++◌, length, refl, sym, ap, subst, ◌∙◌, append_assoc, length-append}
use Rattle.std.specs.Prelude.{None, flat_map}
use Rattle.std.specs.List.{concat}
use Rattle.std.specs.Int.Digits.{AllBelowBase}
use Rattle.asn_base.specs.Abstract.{AbstractValue, text, bits_of_octet}
use Rattle.asn_base.specs.Types.{mandatory, addition, a_boolean, a_sequence, Component, Resolved, Is}
use Rattle.encodings.specs.Rules.{Rules, Basic}
use Rattle.encodings.specs.Header.{identifier, Header}
use Rattle.encodings.specs.Strings.{whole, cut, Segments, no_segment, segment, WholeBits, BitSegments, last_segment, bit_segment, octet_string_tag, bit_string_tag}
use Rattle.encodings.specs.Contents.{of_restricted}
use Rattle.encodings.specs.Orders.{Permutes, permutes_none, permutes_more, EncodingInserted, here, there, Merges, merges_first}
use Rattle.encodings.specs.Encoding.{Framed, innermost, UnknownIf, closed, EncodesTo, says, ContentsEncode, leaf, sequence, left_out, member}
use Rattle.encodings.proofs.Identifiers.{any_front}
use Rattle.encodings.proofs.Least.{framed_at}
use Rattle.asn_base.specs.proving.OneKind.{same_tags}
use Rattle.encodings.proofs.RowsThatFail.{inside}
use Rattle.encodings.proofs.RowTypes.{rows, u1, u16, u18, c0, a_component}
use Rattle.encodings.proofs.RowsThatHold.{short_header}
use Rattle.encodings.proofs.RowsOfClasses.{more}
use Rattle.encodings.specs.proving.Fronts.{head_or_0, tail_of}

-- ---- a restricted string: 3200, 3202 0400, and 3207 2405 2403 0401 39 with segments in segments

pub no_text_cut : EncodesTo rows Basic 20 (text []) 0 (50 ∷ 0 ∷ [])
unfolding identifier
no_text_cut = says (record { found = refl }) (leaf (of_restricted (cut no_segment) tt)) (innermost (record { header = short_header u18 true 0 (lit< tt); fewest = tt }))

pub empty_text_segment : EncodesTo rows Basic 20 (text []) 0 (50 ∷ 2 ∷ 4 ∷ 0 ∷ [])
unfolding identifier
empty_text_segment = says (record { found = refl }) (leaf (of_restricted (cut (segment {x = []} {p = []} (short_header octet_string_tag false 0 (lit< tt)) (whole tt) no_segment)) tt)) (innermost (record { header = short_header u18 true 2 (lit< tt); fewest = tt }))

pub nested_text : EncodesTo rows Basic 20 (text (57 ∷ [])) 0 (50 ∷ 7 ∷ 36 ∷ 5 ∷ 36 ∷ 3 ∷ 4 ∷ 1 ∷ 57 ∷ [])
unfolding identifier
nested_text = says (record { found = refl })
    (leaf (of_restricted (cut (segment {x = 57 ∷ []} {p = 36 ∷ 3 ∷ 4 ∷ 1 ∷ 57 ∷ []} (short_header octet_string_tag true 5 (lit< tt))
    (cut (segment {x = 57 ∷ []} {p = 4 ∷ 1 ∷ 57 ∷ []} (short_header octet_string_tag true 3 (lit< tt))
    (cut (segment {x = 57 ∷ []} {p = 57 ∷ []} (short_header octet_string_tag false 1 (lit< tt)) (whole (lit< tt, tt)) no_segment)) no_segment)) no_segment)) tt))
    (innermost (record { header = short_header u18 true 7 (lit< tt); fewest = tt }))

-- ---- pieces that hold nothing

-- a segment has the tag of OCTET STRING, whatever the string's tag is: 120139 isn't a segment
of_numeric : Header u18 false 1 (18 ∷ 1 ∷ [])
unfolding identifier
of_numeric = short_header u18 false 1 (lit< tt)

pub other_segment : {s o : List ℕ} → Segments s o → o ≡ 18 ∷ 1 ∷ 57 ∷ [] → ⊥
other_segment no_segment e = let l = ap length e in omega arith
other_segment (segment {c = c} {h = h} {x = x} {p = p} {o = o} hd ps gs) e =
    let n = (any_front octet_string_tag u18 c false (length p) 1 h (18 ∷ 1 ∷ []) (p ++ o) (57 ∷ []) hd of_numeric (sym (append_assoc h p o) ∙ e)).numbers in
    omega arith

pub eight_unused : (s : List Bool) → WholeBits s (8 ∷ 0 ∷ []) → ⊥
eight_unused s w = let e = ap head_or_0 w.is in let f = w.few in omega arith

pub unused_of_none : (s : List Bool) → WholeBits s (4 ∷ []) → ⊥
unused_of_none s w =
    let u = ap head_or_0 w.is in
    let e : [] ≡ s ++ w.filling = ap (flat_map bits_of_octet) (ap tail_of w.is) ∙ w.bits in
    let l = ap length e in
    let m = w.as_many in
    omega (arith, u, l, m, length-append s w.filling)

pub no_octet : (s : List Bool) → WholeBits s [] → ⊥
no_octet s w = let l = ap length w.is in omega arith

pub no_octet_256 : (s : List Bool) → WholeBits s (0 ∷ 256 ∷ []) → ⊥
no_octet_256 s w = let a = subst (AllBelowBase 256) (sym (ap tail_of w.is)) w.are_octets in let h = a.0 in omega arith

-- ---- lists of encodings

-- a type without a marker has no unknown additions
pub none_of_closed : {s : List Resolved} {cs : List Component} {k : ℕ} {us : List (List ℕ)} → UnknownIf s cs false k us → (k ≡ 0) × (us ≡ [])
none_of_closed closed = (refl, refl)

-- lists in some order have as many elements, and a mixture has all of both
inserted_one : {x : List ℕ} {xs ys : List (List ℕ)} → EncodingInserted x xs ys → length ys ≡ suc (length xs)
inserted_one here = refl
inserted_one (there i) = ap suc (inserted_one i)

pub permuted_as_many : {xs ys : List (List ℕ)} → Permutes xs ys → length ys ≡ length xs
permuted_as_many permutes_none = refl
permuted_as_many (permutes_more p i) = inserted_one i ∙ ap suc (permuted_as_many p)

pub none_is_dropped : {x : List ℕ} {us : List (List ℕ)} → Merges (x ∷ []) us [] → ⊥
none_is_dropped m = elim m [ ]

pub in_their_order : {x y : List ℕ} → Merges (x ∷ y ∷ []) [] (y ∷ x ∷ []) → x ≡ y
in_their_order (merges_first m) = refl

-- 3006 800100 010100 isn't an encoding of SEQUENCE {a BOOLEAN, ..., b [0] BOOLEAN}: components are in their order
is_0 : Is more 0 (u1 ∷ []) a_boolean
is_0 = record { found = refl }

of_zero : Header c0 false 1 (128 ∷ 1 ∷ [])
unfolding identifier
of_zero = short_header c0 false 1 (lit< tt)

not_boolean : {r : Rules} {c : Bool} {x o : List ℕ} (y : List ℕ) → Framed r (u1 ∷ []) c x o → o ++ y ≡ 128 ∷ 1 ∷ 0 ∷ 1 ∷ 1 ∷ 0 ∷ [] → ⊥
not_boolean {c = c} {x = x} y (innermost {h = h} a) e =
    let n = (any_front u1 c0 c false (length x) 1 h (128 ∷ 1 ∷ []) (x ++ y) (0 ∷ 1 ∷ 1 ∷ 0 ∷ []) a.header of_zero (sym (append_assoc h x y) ∙ e)).numbers in
    omega arith

says_boolean : {r : Rules} {w : AbstractValue} {n : ℕ} {o : List ℕ} (y : List ℕ) → EncodesTo more r 0 w n o → o ++ y ≡ 128 ∷ 1 ∷ 0 ∷ 1 ∷ 1 ∷ 0 ∷ [] → ⊥
says_boolean y (says i h fr) e = not_boolean y (framed_at (same_tags is_0 i) fr) e

pub other_order : {w : AbstractValue} {n : ℕ} {c : Bool} {x : List ℕ} → ContentsEncode more Basic (a_sequence true (a_component 0 mandatory ∷ a_component 2 (addition false None) ∷ [])) w n c x → x ≡ 128 ∷ 1 ∷ 0 ∷ 1 ∷ 1 ∷ 0 ∷ [] → ⊥
other_order (sequence (left_out m ms) u) e = let f : true ≡ false = m in cc
other_order (sequence {us = us} (member {xs = xs} a nd ms) u) e = says_boolean (concat (xs ++ us)) a e
other_order (leaf con) e = elim con [ ]

-- a segment of bits has the tag of BIT STRING: 0402 0080 isn't a segment of bits
of_octets : Header octet_string_tag false 2 (4 ∷ 2 ∷ [])
unfolding identifier
of_octets = short_header octet_string_tag false 2 (lit< tt)

pub other_bit_segment : {s : List Bool} {o : List ℕ} → BitSegments s o → o ≡ 4 ∷ 2 ∷ 0 ∷ 128 ∷ [] → ⊥
other_bit_segment (last_segment {c = c} {h = h} {p = p} hd ps) e =
    let n = (any_front bit_string_tag octet_string_tag c false (length p) 2 h (4 ∷ 2 ∷ []) p (0 ∷ 128 ∷ []) hd of_octets e).numbers in
    omega arith
other_bit_segment (bit_segment {c = c} {h = h} {p = p} {o = o} hd ps m gs) e =
    let n = (any_front bit_string_tag octet_string_tag c false (length p) 2 h (4 ∷ 2 ∷ []) (p ++ o) (0 ∷ 128 ∷ []) hd of_octets (sym (append_assoc h p o) ∙ e)).numbers in
    omega arith

pub components_turned : (w : AbstractValue) (n : ℕ) → EncodesTo more Basic 7 w n (48 ∷ 6 ∷ 128 ∷ 1 ∷ 0 ∷ 1 ∷ 1 ∷ 0 ∷ []) → ⊥
unfolding identifier
components_turned w n a = other_order (inside {x = 128 ∷ 1 ∷ 0 ∷ 1 ∷ 1 ∷ 0 ∷ []} (record { found = refl }) (short_header u16 true 6 (lit< tt)) refl a) refl
