-- Worked rows: strings, sets and defaults that the distinguished rules forbid, and components at a wrong place.
use Rattle.std.proofs.Common.{arith, lit<, ◌≡◌, ℕ, ⊎_elim, Bool, true, false, List, [], ◌∷◌, ◌++◌, length, length-append, replicate, refl, sym, ap, subst, ◌∙◌}
use Rattle.std.specs.Prelude.{flat_map}
use Rattle.std.specs.List.{concat}
use Rattle.asn_base.specs.Abstract.{AbstractValue, fields, end, present, bits_of_octet}
use Rattle.asn_base.specs.Types.{any_size, NamedBit, a_bit_string, a_named_bit_string, an_octet_string, a_sequence, a_set, a_set_of, mandatory, optional, default, Component, Resolved}
use Rattle.asn_base.specs.Tags.{First, first_tag}
use Rattle.asn_base.specs.Same.{Alike, alike, equal, alike_set_of, pair, none_left, here}
use Rattle.encodings.specs.Rules.{Basic, Distinguished}
use Rattle.encodings.specs.Header.{identifier}
use Rattle.encodings.specs.Strings.{WholeBits, whole_bits}
use Rattle.encodings.specs.Contents.{FilledWithZeros, of_bits, of_named_bits, of_octets}
use Rattle.encodings.specs.Orders.{Ascending, ascending_more, AtMost, BeginsWith, InTagOrder}
use Rattle.encodings.specs.Encoding.{Unknown, no_unknown, unknown, UnknownIf, closed, extensible, EncodesTo, ContentsEncode, leaf, sequence, set, set_of, no_member, left_out, member}
use Rattle.encodings.proofs.LeafValues.{bits_value}
use Rattle.encodings.proofs.Units.{IsUnit, says_unit, tag_order_anti}
use Rattle.encodings.proofs.Firsts.{says_first, one_tag, units_list, members_units, elements_units, unknown_units, unit_some}
use Rattle.encodings.proofs.Unique.{says_same}
use Rattle.encodings.proofs.Least.{merged_alone, all_permutes}
use Rattle.encodings.specs.proving.Weaker.{basic_of}
use Rattle.encodings.proofs.RowTypes.{rows, u2, u3, u4, u16, u17, c0, c1, one_and_two, a_component, rows_tagged, rows_tellable, first_only}
use Rattle.encodings.proofs.RowsThatHold.{short_header}
use Rattle.encodings.proofs.RowsOfParts.{tags_ascend, default_present}
use Rattle.encodings.proofs.RowsThatFail.{inside}

-- 2400 isn't an encoding of an OCTET STRING by the distinguished rules
cut_string : {w : AbstractValue} {n : ℕ} {c : Bool} {x : List ℕ} → ContentsEncode rows Distinguished (an_octet_string any_size) w n c x → c ≡ true → ⊥
cut_string (leaf (of_octets a e)) f = let g : false ≡ true = sym e ∙ f in cc

pub not_der_string : (w : AbstractValue) (n : ℕ) → EncodesTo rows Distinguished 3 w n (36 ∷ 0 ∷ []) → ⊥
unfolding identifier
not_der_string w n a = cut_string (inside {x = []} (record { found = refl }) (short_header u4 true 0 (lit< tt)) refl a) refl

-- 030204FF isn't the encoding of a BIT STRING: the unused bits are not zero
four_ones : List Bool
four_ones = true ∷ true ∷ true ∷ true ∷ []

ones_are : WholeBits (true ∷ true ∷ true ∷ true ∷ []) (4 ∷ 255 ∷ [])
ones_are = record { unused = 4; octets = 255 ∷ []; filling = true ∷ true ∷ true ∷ true ∷ []; few = lit< tt; are_octets = (lit< tt, tt); is = refl; bits = refl; as_many = refl }

abbrev fifth : List Bool → Bool
fifth (a ∷ b ∷ c ∷ d ∷ e ∷ bs) = e
fifth bs = true

abbrev first_octet : List ℕ → ℕ
first_octet [] = 0
first_octet (x ∷ xs) = x

abbrev other_octets : List ℕ → List ℕ
other_octets [] = []
other_octets (x ∷ xs) = xs

not_filled : {s : List Bool} {o : List ℕ} → o ≡ 4 ∷ 255 ∷ [] → s ≡ true ∷ true ∷ true ∷ true ∷ [] → FilledWithZeros s o → ⊥
not_filled {s} e f z =
    let g : z.0 ∷ z.1 ≡ 4 ∷ 255 ∷ [] = sym z.2 ∙ e in
    let h : flat_map bits_of_octet (255 ∷ []) ≡ (true ∷ true ∷ true ∷ true ∷ []) ++ replicate 4 false
    = ap (flat_map bits_of_octet) (sym (ap other_octets g)) ∙ z.3 ∙ ap (λ q. q ++ replicate z.0 false) f ∙ ap (λ q. (true ∷ true ∷ true ∷ true ∷ []) ++ replicate q false) (ap first_octet g) in
    let k : true ≡ false = ap fifth h in cc

unused_bits : {w : AbstractValue} {n : ℕ} {c : Bool} {x : List ℕ} → ContentsEncode rows Distinguished (a_bit_string any_size) w n c x → x ≡ 4 ∷ 255 ∷ [] → ⊥
unused_bits (leaf (of_bits a e f)) g = not_filled g (bits_value a (whole_bits ones_are) e g) f

pub not_der_unused : (w : AbstractValue) (n : ℕ) → EncodesTo rows Distinguished 2 w n (3 ∷ 2 ∷ 4 ∷ 255 ∷ []) → ⊥
unfolding identifier
not_der_unused w n a = unused_bits (inside {x = 4 ∷ 255 ∷ []} (record { found = refl }) (short_header u3 false 2 (lit< tt)) refl a) refl

-- 03020680 isn't an encoding under named bits: it has a trailing zero bit
one_zero : WholeBits (true ∷ false ∷ []) (6 ∷ 128 ∷ [])
one_zero = record { unused = 6; octets = 128 ∷ []; filling = false ∷ false ∷ false ∷ false ∷ false ∷ false ∷ []; few = lit< tt; are_octets = (lit< tt, tt); is = refl; bits = refl; as_many = refl }

trailing : {ns : List NamedBit} {w : AbstractValue} {n : ℕ} {c : Bool} {x : List ℕ} → ContentsEncode rows Distinguished (a_named_bit_string ns) w n c x → x ≡ 6 ∷ 128 ∷ [] → ⊥
trailing (leaf (of_named_bits a e f t)) g = t (true ∷ []) (bits_value a (whole_bits one_zero) e g)

pub not_der_trailing : (w : AbstractValue) (n : ℕ) → EncodesTo rows Distinguished 4 w n (3 ∷ 2 ∷ 6 ∷ 128 ∷ []) → ⊥
unfolding identifier
not_der_trailing w n a = trailing (inside {x = 6 ∷ 128 ∷ []} (record { found = refl }) (short_header u3 false 2 (lit< tt)) refl a) refl

-- 3000 isn't an encoding of SEQUENCE {a BOOLEAN}: the component must be present
nothing_there : {w : AbstractValue} {n : ℕ} {c : Bool} {x : List ℕ} → ContentsEncode rows Basic (a_sequence false (a_component 0 mandatory ∷ [])) w n c x → x ≡ [] → ⊥
nothing_there (sequence (left_out m ms) u) e = let f : true ≡ false = m in cc
nothing_there (sequence {us = us} (member {x = x} {xs = xs} a nd ms) u) e = let l = ap length e in omega (arith, l, unit_some (says_unit rows_tagged a), length-append x (concat (xs ++ us)))
nothing_there (leaf con) e = elim con [ ]

pub missing : (w : AbstractValue) (n : ℕ) → EncodesTo rows Basic 13 w n (48 ∷ 0 ∷ []) → ⊥
unfolding identifier
missing w n a = nothing_there (inside {x = []} (record { found = refl }) (short_header u16 true 0 (lit< tt)) refl a) refl

-- 30083106020101020102 isn't an encoding by the distinguished rules: a default is encoded
abbrev first_member : AbstractValue → AbstractValue
first_member (fields (present v vs)) = v
first_member v = v

default_stands : {w : AbstractValue} {n : ℕ} {c : Bool} {x : List ℕ} → ContentsEncode rows Distinguished (a_sequence false (a_component 7 (default one_and_two) ∷ [])) w n c x → w ≡ fields (present one_and_two end) → n ≡ 0 → ⊥
default_stands (sequence (left_out m ms) u) e z = absurd (subst IsPresent (sym e) tt)
  where
    IsPresent : AbstractValue → Type 0
    IsPresent (fields (present v vs)) = Unit {0}
    IsPresent v = ⊥
default_stands (sequence (member {w = v} {j = j} a nd ms) u) e z =
    let same : v ≡ one_and_two = ap first_member e in
    nd (omega arith) (one_and_two, refl, subst (λ q. Alike rows 7 q one_and_two) (sym same) itself)
  where
    itself : Alike rows 7 one_and_two one_and_two
    itself = alike (record { found = refl }) (alike_set_of (pair (alike (record { found = refl }) (equal tt)) (pair (alike (record { found = refl }) (equal tt)) none_left here) here))
default_stands (leaf con) e z = elim con [ ]

pub not_der_default : (w : AbstractValue) (n : ℕ) → EncodesTo rows Distinguished 8 w n (48 ∷ 8 ∷ 49 ∷ 6 ∷ 2 ∷ 1 ∷ 1 ∷ 2 ∷ 1 ∷ 2 ∷ []) → ⊥
unfolding identifier
not_der_default w n a =
    let s = says_same rows Basic Basic rows_tagged rows_tellable (basic_of a) default_present refl in
    default_stands (inside {x = 49 ∷ 6 ∷ 2 ∷ 1 ∷ 1 ∷ 2 ∷ 1 ∷ 2 ∷ []} (record { found = refl }) (short_header u16 true 8 (lit< tt)) refl a) s.values s.counts

-- 3106020102020101 isn't one of a SET OF by these rules: the greater encoding comes first
element_unit : (n : ℕ) → IsUnit (2 ∷ 1 ∷ n ∷ [])
unfolding identifier
element_unit n = record { tag = u2; constructed = false; header = 2 ∷ 1 ∷ []; rest = n ∷ []; is_header = short_header u2 false 1 (lit< tt); whole = refl }

falling : {xs : List (List ℕ)} → Ascending AtMost xs → xs ≡ (2 ∷ 1 ∷ 2 ∷ []) ∷ (2 ∷ 1 ∷ 1 ∷ []) ∷ [] → ⊥
falling a e = by (subst (Ascending AtMost) e a)
  where
    by : Ascending AtMost ((2 ∷ 1 ∷ 2 ∷ []) ∷ (2 ∷ 1 ∷ 1 ∷ []) ∷ []) → ⊥
    by (ascending_more h a) = ⊎_elim (λ l. omega arith) (λ p. ⊎_elim (λ l. omega arith) (λ q. ⊎_elim (λ l. omega arith) (λ r. let f : 2 ≡ 1 = r.0 in omega arith) q.1) p.1) h

unsorted : {w : AbstractValue} {n : ℕ} {c : Bool} {x : List ℕ} → ContentsEncode rows Distinguished (a_set_of any_size 1) w n c x → x ≡ 2 ∷ 1 ∷ 2 ∷ 2 ∷ 1 ∷ 1 ∷ [] → ⊥
unsorted (set_of {xs = xs} es st) e = falling st (units_list xs ((2 ∷ 1 ∷ 2 ∷ []) ∷ (2 ∷ 1 ∷ 1 ∷ []) ∷ []) (elements_units rows_tagged es) (element_unit 2, (element_unit 1, tt)) e)
unsorted (leaf con) e = elim con [ ]

pub not_der_set_of : (w : AbstractValue) (n : ℕ) → EncodesTo rows Distinguished 7 w n (49 ∷ 6 ∷ 2 ∷ 1 ∷ 2 ∷ 2 ∷ 1 ∷ 1 ∷ []) → ⊥
unfolding identifier
not_der_set_of w n a = unsorted (inside {x = 2 ∷ 1 ∷ 2 ∷ 2 ∷ 1 ∷ 1 ∷ []} (record { found = refl }) (short_header u17 true 6 (lit< tt)) refl a) refl

-- 31068101FF800100 isn't one of a SET by these rules: the greater tag comes first
true_unit : IsUnit (129 ∷ 1 ∷ 255 ∷ [])
unfolding identifier
true_unit = record { tag = c1; constructed = false; header = 129 ∷ 1 ∷ []; rest = 255 ∷ []; is_header = short_header c1 false 1 (lit< tt); whole = refl }

false_unit : IsUnit (128 ∷ 1 ∷ 0 ∷ [])
unfolding identifier
false_unit = record { tag = c0; constructed = false; header = 128 ∷ 1 ∷ []; rest = 0 ∷ []; is_header = short_header c0 false 1 (lit< tt); whole = refl }

turned_tags : {xs : List (List ℕ)} → Ascending InTagOrder xs → xs ≡ (129 ∷ 1 ∷ 255 ∷ []) ∷ (128 ∷ 1 ∷ 0 ∷ []) ∷ [] → ⊥
turned_tags a e = by (subst (Ascending InTagOrder) e a)
  where
    by : Ascending InTagOrder ((129 ∷ 1 ∷ 255 ∷ []) ∷ (128 ∷ 1 ∷ 0 ∷ []) ∷ []) → ⊥
    by (ascending_more h a) = tag_order_anti (129 ∷ 1 ∷ 255 ∷ []) (128 ∷ 1 ∷ 0 ∷ []) h tags_ascend

none_new : {s : List Resolved} {cs : List Component} {k : ℕ} {us : List (List ℕ)} → UnknownIf s cs false k us → us ≡ []
none_new closed = refl

unsorted_set : {w : AbstractValue} {n : ℕ} {c : Bool} {x : List ℕ} → ContentsEncode rows Distinguished (a_set false (a_component 9 mandatory ∷ a_component 10 mandatory ∷ [])) w n c x → x ≡ 129 ∷ 1 ∷ 255 ∷ 128 ∷ 1 ∷ 0 ∷ [] → ⊥
unsorted_set (set {zs = zs} ms p st u m) e =
    let zs_are = units_list zs ((129 ∷ 1 ∷ 255 ∷ []) ∷ (128 ∷ 1 ∷ 0 ∷ []) ∷ []) (all_permutes IsUnit p (members_units rows_tagged ms)) (true_unit, (false_unit, tt)) (ap concat (sym (merged_alone m (none_new u))) ∙ e) in
    turned_tags st zs_are
unsorted_set (leaf con) e = elim con [ ]

pub not_der_set : (w : AbstractValue) (n : ℕ) → EncodesTo rows Distinguished 11 w n (49 ∷ 6 ∷ 129 ∷ 1 ∷ 255 ∷ 128 ∷ 1 ∷ 0 ∷ []) → ⊥
unfolding identifier
not_der_set w n a = unsorted_set (inside {x = 129 ∷ 1 ∷ 255 ∷ 128 ∷ 1 ∷ 0 ∷ []} (record { found = refl }) (short_header u17 true 6 (lit< tt)) refl a) refl

-- 3006810105800107 isn't an encoding of SEQUENCE {a [0] INTEGER OPTIONAL, ...}: a known component is after an unknown
-- addition
new_unit : IsUnit (129 ∷ 1 ∷ 5 ∷ [])
unfolding identifier
new_unit = record { tag = c1; constructed = false; header = 129 ∷ 1 ∷ []; rest = 5 ∷ []; is_header = short_header c1 false 1 (lit< tt); whole = refl }

new_begins : BeginsWith c1 (129 ∷ 1 ∷ 5 ∷ [])
unfolding identifier
new_begins = record { constructed = false; count = 1; header = 129 ∷ 1 ∷ []; rest = 5 ∷ []; is_header = short_header c1 false 1 (lit< tt); whole = refl }

known_unit : IsUnit (128 ∷ 1 ∷ 7 ∷ [])
unfolding identifier
known_unit = record { tag = c0; constructed = false; header = 128 ∷ 1 ∷ []; rest = 7 ∷ []; is_header = short_header c0 false 1 (lit< tt); whole = refl }

known_begins : BeginsWith c0 (128 ∷ 1 ∷ 7 ∷ [])
unfolding identifier
known_begins = record { constructed = false; count = 1; header = 128 ∷ 1 ∷ []; rest = 7 ∷ []; is_header = short_header c0 false 1 (lit< tt); whole = refl }

abbrev turned : List (List ℕ)
turned = (129 ∷ 1 ∷ 5 ∷ []) ∷ (128 ∷ 1 ∷ 7 ∷ []) ∷ []

abbrev head_of : List (List ℕ) → List ℕ
head_of [] = []
head_of (x ∷ xs) = x

abbrev tail_of : List (List ℕ) → List (List ℕ)
tail_of [] = []
tail_of (x ∷ xs) = xs

is_known : First rows 14 c0
is_known = first_tag {ts = []} (record { found = refl })

not_new : {k : ℕ} {us : List (List ℕ)} → Unknown rows (a_component 14 optional ∷ []) k us → us ≡ (128 ∷ 1 ∷ 7 ∷ []) ∷ [] → ⊥
not_new no_unknown e = let l = ap length e in omega arith
not_new (unknown {g = g} {c = c} {h = h} x hd b f u) e =
    let begins : BeginsWith g (128 ∷ 1 ∷ 7 ∷ []) = subst (BeginsWith g) (ap head_of e) (record { constructed = c; count = length x; header = h; rest = x; is_header = hd; whole = refl }) in
    f.0 (subst (First rows 14) (one_tag c0 g (128 ∷ 1 ∷ 7 ∷ []) known_begins begins) is_known)

tail_new : {k : ℕ} {us : List (List ℕ)} → Unknown rows (a_component 14 optional ∷ []) k us → us ≡ turned → ⊥
tail_new no_unknown e = let l = ap length e in omega arith
tail_new (unknown x hd b f u) e = not_new u (ap tail_of e)

wrong_tag : {w : AbstractValue} {j : ℕ} {x : List ℕ} → EncodesTo rows Basic 14 w j x → x ≡ 129 ∷ 1 ∷ 5 ∷ [] → ⊥
wrong_tag {x = x} a e =
    let f = says_first rows_tagged a in
    let g : f.tag ≡ c0 = first_only {t = 14} refl f.is_first in
    let h : f.tag ≡ c1 = one_tag f.tag c1 x f.begins (subst (BeginsWith c1) (sym e) new_begins) in
    let n = ap (λ q. q.number) (sym g ∙ h) in omega arith

out_of_order : {w : AbstractValue} {n : ℕ} {c : Bool} {x : List ℕ} → ContentsEncode rows Basic (a_sequence true (a_component 14 optional ∷ [])) w n c x → x ≡ 129 ∷ 1 ∷ 5 ∷ 128 ∷ 1 ∷ 7 ∷ [] → ⊥
out_of_order (sequence {us = us} (left_out m no_member) (extensible u)) e = tail_new u (units_list us turned (unknown_units u) (new_unit, (known_unit, tt)) e)
out_of_order (sequence {us = us} (member {x = x} a nd no_member) (extensible u)) e =
    wrong_tag a (ap head_of (units_list (x ∷ us) turned (says_unit rows_tagged a, unknown_units u) (new_unit, (known_unit, tt)) e))
out_of_order (leaf con) e = elim con [ ]

pub unknown_before_known : (w : AbstractValue) (n : ℕ) → EncodesTo rows Basic 15 w n (48 ∷ 6 ∷ 129 ∷ 1 ∷ 5 ∷ 128 ∷ 1 ∷ 7 ∷ []) → ⊥
unfolding identifier
unknown_before_known w n a = out_of_order (inside {x = 129 ∷ 1 ∷ 5 ∷ 128 ∷ 1 ∷ 7 ∷ []} (record { found = refl }) (short_header u16 true 6 (lit< tt)) refl a) refl
