-- Rows of what is read: messages of other versions of a type, and of values too long or too large to compute.
use Rattle.std.proofs.Common.{lit<, lit≤, arith, ◌≡◌, ℕ, zero, suc, ◌+◌, ◌*◌, ◌/◌, ◌%◌, ◌^◌, ◌<◌, ◌≤◌, inl, inr, ⊎_elim, true, false, List, [], ◌∷◌, ◌++◌, length, map, replicate, refl, sym, ap, subst, ◌∙◌}
use Rattle.std.proofs.lemmas.Int.{ints}
use Rattle.std.proofs.Math.Nat.{pow-succ'}
use Rattle.packed_encodings.specs.proving.Words.{fewest_fit}
use Rattle.packed_encodings.proofs.Words.{word_then, heads, tails, not_false, not_true}
use Rattle.std.proofs.lemmas.List.{length-replicate}
use Rattle.std.specs.Prelude.{Some, pos, negsuc, ◌+ℤ◌, ◌≤ℤ◌, ◌-◌, ℤ, None}
use Rattle.std.specs.Int.Digits.{AllBelowBase, digits_of}
use Rattle.std.proofs.lemmas.Int.Digits.{length-digits_of-le, digits_of_step}
use Rattle.bits.specs.Words.{low_bits, octet_bits}
use Rattle.asn_base.specs.Abstract.{AbstractValue, boolean, integer, octets, text, relative_oid, fields, list, alternative, end, absent, present}
use Rattle.asn_base.specs.Types.{Constraint, Bounds, any_size, a_boolean, an_integer, an_octet_string, a_sequence, a_sequence_of, a_relative_oid, mandatory, default, Resolved, Is}
use Rattle.encodings.specs.Header.{septets}
use Rattle.packed_encodings.specs.Lengths.{Bits, Items, all_bits, fewest_bits, Counted, CountedOctets, short, fragment, sized, wide, narrow, sized_in_root, sized_outside, long}
use Rattle.packed_encodings.specs.Numbers.{IntegerInRoot, between, Integer, integer_bounded}
use Rattle.packed_encodings.specs.Leaves.{LeafPer, of_boolean, of_integer, of_octets, of_relative_oid}
use Rattle.packed_encodings.specs.Orders.{beside_none, beside_absent, beside_present}
use Rattle.packed_encodings.specs.Padding.{Padded, padded, open_type, UnknownAdditions, no_bit, set_bit}
use Rattle.packed_encodings.specs.Packing.{exact, lenient, no_marker, some_member_present, EncodesPer, says, leaf, sequence, sequence_of, no_member, must_be_present, may_be_present, no_addition, added, not_added, ElementsPer, no_element, element, Reads, Form, EncodesKindPer}
use Rattle.packed_encodings.specs.Weights.{weight}
use Rattle.packed_encodings.proofs.Rows.{of_kind, is_component, from_to, new, truths}
use Rattle.asn_base.specs.declared.tag.Tag.{Tag}
use Rattle.asn_base.specs.Schemas.{IsSchema}
use Rattle.packed_encodings.specs.proving.Tests.{lt_or_ge}
use Rattle.packed_encodings.proofs.Single.{padded_only}
use Rattle.packed_encodings.proofs.Theorems.{only_filled}
use Rattle.asn_base.specs.Typed.{IsAllowed, IsValue, ValueIn, value_in, ValueOf, of_leaf, fits_integer}
use Rattle.packed_encodings.proofs.Fronts.{padded_bits, same_kind, holds_at}
use Rattle.packed_encodings.proofs.Free.{octets_front}

-- octets, which are filled up, say a value
record IsRead (s : List Resolved) (w : AbstractValue) (k : ℕ) (o : List ℕ) : Type 0 where
  bits : Bits
  says_it : EncodesPer s lenient 0 w k bits
  filled : Padded bits o

-- ---- additions

-- SEQUENCE {a BOOLEAN, ...} reads C0406800 as {a TRUE}, with one addition that it lacks
abbrev without_additions : List Resolved
without_additions = of_kind (a_sequence true (is_component 1 mandatory ∷ [])) ∷ of_kind a_boolean ∷ []

one_unknown : IsRead without_additions (fields (present (boolean true) end)) 1 (192 ∷ 64 ∷ 104 ∷ 0 ∷ [])
one_unknown = record {
  bits = _;
  says_it = says (record { found = refl })
      (sequence (beside_present beside_none) (must_be_present refl (says (record { found = refl }) (leaf of_boolean)) no_member) no_addition
      (some_member_present {u = true ∷ []} (true ∷ []) (inl refl) refl (lit≤ tt)
      (set_bit {o = 160 ∷ []} (omega arith) (record { octets = (lit< tt, tt); counted = short (lit< tt) }) no_bit)));
  filled = padded 6 (lit≤ tt) (lit< tt) (lit< tt, (lit< tt, (lit< tt, (lit< tt, tt)))) refl;
}

-- it reads C0E034002000 with two
two_unknown : IsRead without_additions (fields (present (boolean true) end)) 2 (192 ∷ 224 ∷ 52 ∷ 0 ∷ 32 ∷ 0 ∷ [])
two_unknown = record {
  bits = _;
  says_it = says (record { found = refl })
      (sequence (beside_present beside_none) (must_be_present refl (says (record { found = refl }) (leaf of_boolean)) no_member) no_addition
      (some_member_present {u = true ∷ true ∷ []} (true ∷ true ∷ []) (inl refl) refl (lit≤ tt)
      (set_bit {o = 160 ∷ []} (omega arith) (record { octets = (lit< tt, tt); counted = short (lit< tt) })
      (set_bit {o = 0 ∷ []} (omega arith) (record { octets = (lit< tt, tt); counted = short (lit< tt) }) no_bit))));
  filled = padded 5 (lit≤ tt) (lit< tt) (lit< tt, (lit< tt, (lit< tt, (lit< tt, (lit< tt, (lit< tt, tt)))))) refl;
}

-- an open type of no octets, 00, is that of no addition
no_octets : {k : ℕ} {y : Bits} → UnknownAdditions (true ∷ []) k y → y ≡ replicate 8 false → ⊥
no_octets (set_bit {x = x} {b = b} some c a) e =
    let o = octets_front {r = []} b [] c (record { octets = tt; counted = short (lit< tt) }) e in
    let l = ap length o.0 in
    omega (arith, some, l)

-- SEQUENCE {a BOOLEAN, ..., b INTEGER (0..7), c INTEGER (0..7)} reads C0406800, which has one addition, as {a TRUE, b
-- 5}
abbrev with_two : List Resolved
with_two = of_kind (a_sequence true (is_component 1 mandatory ∷ is_component 2 new ∷ is_component 2 new ∷ [])) ∷ of_kind a_boolean ∷ of_kind (an_integer (from_to 0 7)) ∷ []

fewer_told : IsRead with_two (fields (present (boolean true) (present (integer (pos 5)) (absent end)))) 0 (192 ∷ 64 ∷ 104 ∷ 0 ∷ [])
fewer_told = record {
  bits = _;
  says_it = says (record { found = refl })
      (sequence (beside_present (beside_present (beside_absent beside_none))) (must_be_present refl (says (record { found = refl }) (leaf of_boolean)) no_member)
      (added (says (record { found = refl }) (leaf (of_integer (integer_bounded refl (between (pos 0) 7 5 refl refl (lit≤ tt) refl)))))
      (open_type {o = 160 ∷ []} (padded 5 (lit≤ tt) (lit< tt) (lit< tt, tt) refl) (record { octets = (lit< tt, tt); counted = short (lit< tt) }))
      (not_added no_addition))
      (some_member_present {u = []} (true ∷ []) (inr (refl, 1, refl)) refl (lit≤ tt) no_bit));
  filled = padded 6 (lit≤ tt) (lit< tt) (lit< tt, (lit< tt, (lit< tt, (lit< tt, tt)))) refl;
}

-- The types are T ::= SEQUENCE {s S DEFAULT {a TRUE}} and S ::= SEQUENCE {a BOOLEAN, ...}. T reads E0203400 as {s {a
-- TRUE}}. The value is the same as the DEFAULT, but an addition was skipped within it.
abbrev with_default : List Resolved
with_default = of_kind (a_sequence false (is_component 1 (default (fields (present (boolean true) end))) ∷ [])) ∷ of_kind (a_sequence true (is_component 2 mandatory ∷ [])) ∷ of_kind a_boolean ∷ []

default_beside_addition : IsRead with_default (fields (present (fields (present (boolean true) end)) end)) 1 (224 ∷ 32 ∷ 52 ∷ 0 ∷ [])
default_beside_addition = record {
  bits = _;
  says_it = says (record { found = refl })
      (sequence (beside_present beside_none)
      (may_be_present refl
      (says (record { found = refl })
      (sequence (beside_present beside_none) (must_be_present refl (says (record { found = refl }) (leaf of_boolean)) no_member) no_addition
      (some_member_present {u = true ∷ []} (true ∷ []) (inl refl) refl (lit≤ tt)
      (set_bit {o = 160 ∷ []} (omega arith) (record { octets = (lit< tt, tt); counted = short (lit< tt) }) no_bit))))
      (λ z. absurd (omega arith))
      no_member)
      no_addition no_marker);
  filled = padded 5 (lit≤ tt) (lit< tt) (lit< tt, (lit< tt, (lit< tt, (lit< tt, tt)))) refl;
}

-- ---- weights

-- {a "ab", b 5} without c, and a list of an alternative of an empty text
a_weight : weight (fields (present (text (97 ∷ 98 ∷ [])) (present (integer (pos 5)) (absent end)))) ≡ 5
a_weight = refl

a_weight_of_a_list : weight (list (present (alternative 0 (text [])) end)) ≡ 3
a_weight_of_a_list = refl

-- no octets are a message of a value that is too heavy
too_heavy : {s : List Resolved} {t k : ℕ} {w : AbstractValue} {o : List ℕ} → Reads s t w k o → 16777216 < weight w → ⊥
too_heavy r h = let l = r.light in omega (arith, l, h)

-- ---- long values

truths_are : (s : List Resolved) (n : ℕ) → ElementsPer (of_kind (a_sequence_of any_size 1) ∷ of_kind a_boolean ∷ s) exact 1 (truths n) 0 (replicate n (true ∷ []))
truths_are s zero = no_element
truths_are s (suc n) = element (says (record { found = refl }) (leaf of_boolean)) (truths_are s n)

counted_at : {xs ys : Items} {b : Bits} → xs ≡ ys → Counted xs b → Counted ys b
counted_at {b = b} e a = subst (λ q. Counted q b) e a

-- SEQUENCE OF BOOLEAN with 16,384 times TRUE: C1, as many bits 1, and 00
many_truths : (n : ℕ) → n ≡ 16384 → EncodesPer (of_kind (a_sequence_of any_size 1) ∷ of_kind a_boolean ∷ []) exact 0 (list (truths n)) 0 (true ∷ (true ∷ (low_bits 6 1 ++ (all_bits (replicate n (true ∷ [])) ++ (false ∷ (low_bits 7 0 ++ []))))))
many_truths n e =
    let l = length-replicate n (true ∷ []) in
    says (record { found = refl }) (sequence_of (truths_are [] n) (sized refl (wide (λ h. h) (at_least_zero (length (replicate n (true ∷ []))), tt)
    (counted_at (nothing_more (replicate n (true ∷ []))) (fragment 1 (replicate n (true ∷ [])) [] (lit≤ tt) (lit≤ tt) (l ∙ e) (inl (lit< tt)) (short (lit< tt)))))))
  where
    nothing_more : (xs : Items) → xs ++ [] ≡ xs
    nothing_more [] = refl
    nothing_more (x ∷ xs) = ap (λ q. x ∷ q) (nothing_more xs)

    at_least_zero : (n : ℕ) → pos 0 ≤ℤ pos n
    at_least_zero n = omega (arith, ints)

-- OCTET STRING of 81,921 octets: C4, 65,536 octets, C1, 16,384 octets, 01 and one
many_octets : (a b : List ℕ) (c : ℕ) → AllBelowBase 256 (a ++ (b ++ (c ∷ []))) → length a ≡ 65536 → length b ≡ 16384
    → LeafPer (an_octet_string any_size) (octets (a ++ (b ++ (c ∷ []))))
    (true ∷ (true ∷ (low_bits 6 4 ++ (all_bits (map (low_bits 8) a) ++ (true ∷ (true ∷ (low_bits 6 1 ++ (all_bits (map (low_bits 8) b) ++ (false ∷ (low_bits 7 1 ++ (low_bits 8 c ++ [])))))))))))
many_octets a b c below la lb = of_octets below (sized refl (wide (λ h. h) (at_least_zero (length (map (low_bits 8) (a ++ (b ++ (c ∷ []))))), tt)
    (counted_at (sym (parts a (b ++ (c ∷ [])) ∙ ap (λ q. map (low_bits 8) a ++ q) (parts b (c ∷ []))))
    (fragment 4 (map (low_bits 8) a) (map (low_bits 8) b ++ (low_bits 8 c ∷ [])) (lit≤ tt) (lit≤ tt) (mapped a ∙ la) (inr refl)
    (fragment 1 (map (low_bits 8) b) (low_bits 8 c ∷ []) (lit≤ tt) (lit≤ tt) (mapped b ∙ lb) (inl (lit< tt)) (short (lit< tt)))))))
  where
    parts : (xs ys : List ℕ) → map (low_bits 8) (xs ++ ys) ≡ map (low_bits 8) xs ++ map (low_bits 8) ys
    parts [] ys = refl
    parts (x ∷ xs) ys = ap (λ q. low_bits 8 x ∷ q) (parts xs ys)

    mapped : (xs : List ℕ) → length (map (low_bits 8) xs) ≡ length xs
    mapped [] = refl
    mapped (x ∷ xs) = ap suc (mapped xs)

    at_least_zero : (n : ℕ) → pos 0 ≤ℤ pos n
    at_least_zero n = omega (arith, ints)

-- ---- a wide range

fewest_is : (k m : ℕ) → 2 ^ k ≤ m → m < 2 ^ suc k → fewest_bits m ≡ suc k
fewest_is k m a b =
    let l = length-digits_of-le 2 (suc k) m (omega arith) b in
    let n : m < 2 ^ fewest_bits m = fewest_fit m m (omega arith) in
    ⊎_elim (λ h. absurd (omega (arith, power_up (fewest_bits m) k (omega arith)))) (λ h. omega arith) (lt_or_ge (fewest_bits m) (suc k))
  where
    some_power : (k : ℕ) → 1 ≤ 2 ^ k
    some_power zero = omega arith
    some_power (suc k) = omega (arith, some_power k, pow-succ' 2 k)

    power_up : (i j : ℕ) → i ≤ j → 2 ^ i ≤ 2 ^ j
    power_up zero j h = some_power j
    power_up (suc i) zero h = absurd (omega arith)
    power_up (suc i) (suc j) h = omega (arith, power_up i j (omega arith), pow-succ' 2 i, pow-succ' 2 j)

-- the least number of INTEGER (-2^127..2^127-1): 128 bits 0
least_integer : (z : Bounds) → z.extensible ≡ false → z.least ≡ Some (negsuc (2 ^ 127 - 1)) → z.greatest ≡ Some (negsuc (2 ^ 127 - 1) +ℤ pos (2 ^ 128 - 1)) → Integer z (negsuc (2 ^ 127 - 1)) (low_bits 128 0)
least_integer z e l g = integer_bounded e (subst (λ k. IntegerInRoot z (negsuc (2 ^ 127 - 1)) (low_bits k 0)) (fewest_is 127 (2 ^ 128 - 1) (lit≤ tt) (lit< tt)) (between (negsuc (2 ^ 127 - 1)) (2 ^ 128 - 1) 0 l g (omega arith) (omega (arith, ints))))

all_zeros : low_bits 128 0 ≡ replicate 128 false
all_zeros = refl

-- ---- the greatest arc

-- one digit more in front of the last one
last_digit : (n q r : ℕ) (ds : List ℕ) → n ≡ q * 128 + r → r < 128 → 0 < n → digits_of 128 q ≡ ds → digits_of 128 n ≡ ds ++ (r ∷ [])
last_digit n q r ds e l h d =
    let a : n / 128 ≡ q = omega arith in
    let b : n % 128 ≡ r = omega arith in
    digits_of_step 128 n (omega arith) h ∙ ap (λ z. digits_of 128 z ++ (n % 128 ∷ [])) a ∙ ap (λ z. digits_of 128 q ++ (z ∷ [])) b ∙ ap (λ z. z ++ (r ∷ [])) d

-- 2^64 - 1 in septets: 81, eight octets FF and 7F
greatest_arc : (n a b c d e f g h : ℕ) → a ≡ 255 → b ≡ a * 128 + 127 → c ≡ b * 128 + 127 → d ≡ c * 128 + 127 → e ≡ d * 128 + 127 → f ≡ e * 128 + 127 → g ≡ f * 128 + 127 → h ≡ g * 128 + 127 → n ≡ h * 128 + 127 → septets n ≡ 129 ∷ (replicate 8 255 ++ (127 ∷ []))
greatest_arc n a b c d e f g h ea eb ec ed ee ef eg eh en =
    let da = last_digit a 1 127 (1 ∷ []) (omega arith) (omega arith) (omega arith) refl in
    let db = last_digit b a 127 _ eb (omega arith) (omega arith) da in
    let dc = last_digit c b 127 _ ec (omega arith) (omega arith) db in
    let dd = last_digit d c 127 _ ed (omega arith) (omega arith) dc in
    let de = last_digit e d 127 _ ee (omega arith) (omega arith) dd in
    let df = last_digit f e 127 _ ef (omega arith) (omega arith) de in
    let dg = last_digit g f 127 _ eg (omega arith) (omega arith) df in
    let dh = last_digit h g 127 _ eh (omega arith) (omega arith) dg in
    let q : n / 128 ≡ h = omega arith in
    let r : n % 128 ≡ 127 = omega arith in
    ap (λ z. map (λ d. 128 + d) (digits_of 128 z) ++ ((n % 128) ∷ [])) q ∙ ap (λ z. map (λ d. 128 + d) z ++ ((n % 128) ∷ [])) dh ∙ ap (λ z. map (λ d. 128 + d) (1 ∷ replicate 8 127) ++ (z ∷ [])) r

-- RELATIVE-OID {18446744073709551615}: 0A, 81, eight octets FF and 7F
greatest_relative : (n a b c d e f g h : ℕ) → a ≡ 255 → b ≡ a * 128 + 127 → c ≡ b * 128 + 127 → d ≡ c * 128 + 127 → e ≡ d * 128 + 127 → f ≡ e * 128 + 127 → g ≡ f * 128 + 127 → h ≡ g * 128 + 127 → n ≡ h * 128 + 127 → LeafPer a_relative_oid (relative_oid (n ∷ [])) (false ∷ (low_bits 7 10 ++ all_bits (map (low_bits 8) (129 ∷ (replicate 8 255 ++ (127 ∷ []))))))
greatest_relative n a b c d e f g h ea eb ec ed ee ef eg eh en =
    of_relative_oid (record { some = lit≤ tt; at_most = lit≤ tt; small = (omega arith, tt) })
    (subst (λ z. CountedOctets z (false ∷ (low_bits 7 10 ++ all_bits (map (low_bits 8) (129 ∷ (replicate 8 255 ++ (127 ∷ []))))))) (sym (ap (λ z. z ++ []) (greatest_arc n a b c d e f g h ea eb ec ed ee ef eg eh en)))
    (record { octets = (lit< tt, (lit< tt, (lit< tt, (lit< tt, (lit< tt, (lit< tt, (lit< tt, (lit< tt, (lit< tt, (lit< tt, tt)))))))))); counted = short (lit< tt) }))

-- as a message: 0A81FFFFFFFFFFFFFFFF7F
greatest_relative_read : IsRead (of_kind a_relative_oid ∷ []) (relative_oid (18446744073709551615 ∷ [])) 0 (10 ∷ 129 ∷ (replicate 8 255 ++ (127 ∷ [])))
greatest_relative_read = record {
  bits = _;
  says_it = says (record { found = refl })
      (leaf (greatest_relative 18446744073709551615 255 32767 4194303 536870911 68719476735 8796093022207 1125899906842623 144115188075855871 refl refl refl refl refl refl refl refl refl));
  filled = padded 0 (lit≤ tt) (lit< tt) (lit< tt, (lit< tt, (lit< tt, (lit< tt, (lit< tt, (lit< tt, (lit< tt, (lit< tt, (lit< tt, (lit< tt, (lit< tt, tt))))))))))) refl;
}

-- ---- refusals

true_bit : {s : List Resolved} {t : ℕ} {tags : List Tag} → Is s t tags a_boolean → EncodesPer s lenient t (boolean true) 0 (true ∷ [])
true_bit i = says i (leaf of_boolean)

true_octet : Padded (true ∷ []) (128 ∷ [])
true_octet = padded 7 (lit≤ tt) (lit< tt) (lit< tt, tt) refl

one_octet : (m n : ℕ) → m ∷ [] ≡ n ∷ [] → m ≡ n
one_octet m n e = cc

-- BOOLEAN doesn't read 81: a filling bit is 1
no_filling_bit : (s : List Resolved) (t k : ℕ) (tags : List Tag) (w : AbstractValue) → IsSchema s → Is s t tags a_boolean → Reads s t w k (129 ∷ []) → ⊥
no_filling_bit s t k tags w i is r =
    let p = only_filled s t 0 k (boolean true) w (true ∷ []) (false ∷ (false ∷ (false ∷ (false ∷ (false ∷ (false ∷ (true ∷ []))))))) (129 ∷ []) i (true_bit is) refl r in
    let e = one_octet 129 128 (padded_only true_octet p.0 refl) in omega (arith, e)

-- nor 8000: an octet more
no_octet_more : (s : List Resolved) (t k : ℕ) (tags : List Tag) (w : AbstractValue) → IsSchema s → Is s t tags a_boolean → Reads s t w k (128 ∷ (0 ∷ [])) → ⊥
no_octet_more s t k tags w i is r =
    let p = only_filled s t 0 k (boolean true) w (true ∷ []) (replicate 15 false) (128 ∷ (0 ∷ [])) i (true_bit is) refl r in
    let e : 2 ≡ 1 = ap length (padded_only true_octet p.0 refl) in omega (arith, e)

-- INTEGER (1..3 | 8) reads no value from 60: the bits 011 are 4, which lies between the ranges
abbrev in_union : Constraint
in_union = record {
  allowed = Some (record { least = Some (pos 1); greatest = Some (pos 3) } ∷ record { least = Some (pos 8); greatest = Some (pos 8) } ∷ []);
  visible = (from_to 1 8).visible;
}

four_bits : {s : List Resolved} {t : ℕ} {tags : List Tag} → Is s t tags (an_integer in_union) → EncodesPer s lenient t (integer (pos 4)) 0 (false ∷ (true ∷ (true ∷ [])))
four_bits i = says i (leaf (of_integer (integer_bounded refl (between (pos 1) 7 3 refl refl (lit≤ tt) refl))))

allowed_integer : {s : List Resolved} {n : ℕ} {c : Constraint} {z : ℤ} → ValueOf s n (an_integer c) (integer z) → IsAllowed c z
allowed_integer (of_leaf (fits_integer small a)) = a

allowed_there : {s : List Resolved} {n t : ℕ} {tags : List Tag} {c : Constraint} {z : ℤ} → ValueIn s n t (integer z) → Is s t tags (an_integer c) → IsAllowed c z
allowed_there {s = s} {z = z} (value_in {n = n} i v) j = allowed_integer (subst (λ k. ValueOf s n k (integer z)) (same_kind i j) v)

four_excluded : IsAllowed in_union (pos 4) → ⊥
four_excluded (inl a) = let b = a.1 in omega (arith, ints, b)
four_excluded (inr (inl a)) = let b = a.0 in omega (arith, ints, b)
four_excluded (inr (inr a)) = absurd a

none_between : (s : List Resolved) (t k : ℕ) (tags : List Tag) (w : AbstractValue) → IsSchema s → Is s t tags (an_integer in_union) → Reads s t w k (96 ∷ []) → ⊥
none_between s t k tags w i is r =
    let p = only_filled s t 0 k (integer (pos 4)) w (false ∷ (true ∷ (true ∷ []))) (replicate 5 false) (96 ∷ []) i (four_bits is) refl r in
    four_excluded (allowed_there (subst (λ v. IsValue s t v) p.1 r.value).shaped is)

-- OCTET STRING reads no value from 800101: the number of octets, 1, is in two octets, although one is enough
octets_counted : {w : AbstractValue} {b : Bits} → LeafPer (an_octet_string any_size) w b → (xs : Items) × Counted xs b
octets_counted (of_octets {o = o} below (sized e (narrow l m n f g h i j))) = absurd (no_number g)
  where
    no_number : {z : ℤ} → None ≡ Some z → ⊥
    no_number e = cc
octets_counted (of_octets {o = o} below (sized e (wide f g c))) = (map (low_bits 8) o, c)
octets_counted (of_octets below (sized_in_root e c)) = absurd (not_true e)
octets_counted (of_octets below (sized_outside e f c)) = absurd (not_true e)

counted_there : {s : List Resolved} {f : Form} {t k : ℕ} {tags : List Tag} {w : AbstractValue} {b : Bits} → EncodesPer s f t w k b → Is s t tags (an_octet_string any_size) → (xs : Items) × Counted xs b
counted_there (says i h) j = of_kind_there (holds_at (same_kind i j) h)
  where
    of_kind_there : {s : List Resolved} {f : Form} {k : ℕ} {w : AbstractValue} {b : Bits} → EncodesKindPer s f (an_octet_string any_size) w k b → (xs : Items) × Counted xs b
    of_kind_there (leaf a) = octets_counted a

no_longer_count : {xs : Items} {b : Bits} (z : Bits) → Counted xs b → octet_bits (128 ∷ (1 ∷ (1 ∷ []))) ≡ b ++ z → ⊥
no_longer_count z (short l) e = not_false (heads e)
no_longer_count {xs} z (long l m) e =
    let a = word_then 14 1 (length xs) (low_bits 8 1) (all_bits xs) [] z (lit< tt) m (tails (tails e)) in
    let b = a.0 in omega (arith, b, l)
no_longer_count z (fragment m xs ys a b c d f) e = not_true (heads (tails e))

none_counted_longer : (s : List Resolved) (t k : ℕ) (tags : List Tag) (w : AbstractValue) → Is s t tags (an_octet_string any_size) → Reads s t w k (128 ∷ (1 ∷ (1 ∷ []))) → ⊥
none_counted_longer s t k tags w is r =
    let p = padded_bits r.filled in
    no_longer_count p.0 (counted_there r.says_it is).1 p.1
