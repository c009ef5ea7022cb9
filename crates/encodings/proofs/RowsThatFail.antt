-- Worked rows: octets that aren't encodings, or not by the distinguished rules.
use Rattle.std.proofs.Common.{arith, lit<, ◌≡◌, ℕ, ◌≤◌, ◌^◌, Bool, true, false, List, [], ◌∷◌, ◌++◌, length, refl, sym, ap, subst, ◌∙◌, length-append, append_assoc}
use Rattle.std.specs.Prelude.{ℤ}
use Rattle.std.specs.Int.Digits.{number_from_digits}
use Rattle.asn_base.specs.declared.tag.Tag.{Tag}
use Rattle.asn_base.specs.Abstract.{AbstractValue}
use Rattle.asn_base.specs.Types.{any_size, Kind, a_boolean, an_integer, a_bit_string, an_octet_string, Resolved, Is}
use Rattle.encodings.specs.Rules.{Rules, Basic, Unsorted, Distinguished}
use Rattle.encodings.specs.Header.{identifier, Header, long}
use Rattle.encodings.specs.Fewest.{shortest_header}
use Rattle.encodings.specs.Strings.{BitPieces, whole_bits, cut_bits, BitSegments, last_segment, bit_segment, bit_string_tag}
use Rattle.encodings.specs.Contents.{TwosComplement, not_negative, negative, of_false, of_true, of_integer, of_bits}
use Rattle.encodings.specs.Encoding.{Framed, innermost, EncodesTo, says, ContentsEncode, leaf}
use Rattle.encodings.proofs.Headers.{shortest_only}
use Rattle.encodings.specs.proving.Fronts.{split_front}
use Rattle.encodings.proofs.Identifiers.{any_front}
use Rattle.encodings.proofs.BitLaws.{bits_length}
use Rattle.encodings.proofs.LeafValues.{segments_some}
use Rattle.encodings.proofs.Least.{holds_at, framed_at}
use Rattle.asn_base.specs.proving.OneKind.{same_tags, same_kind}
use Rattle.encodings.proofs.Firsts.{SameContents}
use Rattle.encodings.proofs.RowTypes.{rows, free, u1, u2, u3, u4}
use Rattle.encodings.proofs.RowsThatHold.{short_header}

framed_inside : {r : Rules} {g : Tag} {c d : Bool} {x y h o : List ℕ} → Framed r (g ∷ []) d y o → Header g c (length x) h → o ≡ h ++ x → SameContents d c y x
framed_inside {g = g} {c = c} {d = d} {x = x} {y = y} {h = h} (innermost {h = h'} a) hd e =
    let r = any_front g g d c (length y) (length x) h' h y x a.header hd e in record { forms = r.forms; inside = r.rest }

-- the contents after the only header of octets
pub inside : {s : List Resolved} {r : Rules} {t : ℕ} {g : Tag} {k : Kind} {w : AbstractValue} {n : ℕ} {c : Bool} {h x o : List ℕ} → Is s t (g ∷ []) k → Header g c (length x) h → o ≡ h ++ x → EncodesTo s r t w n o → ContentsEncode s r k w n c x
inside {s} {r} {k = k} {w = w} {n = n} {c = c} {x = x} i hd e (says {c = d} j h fr) =
    let f = framed_inside (framed_at (same_tags i j) fr) hd e in
    subst (λ q. ContentsEncode s r k w n q x) f.forms (subst (λ q. ContentsEncode s r k w n d q) f.inside (holds_at (same_kind i j) h))

is_0 : Is rows 0 (u1 ∷ []) a_boolean
is_0 = record { found = refl }

is_1 : Is rows 1 (u2 ∷ []) (an_integer free)
is_1 = record { found = refl }

is_2 : Is rows 2 (u3 ∷ []) (a_bit_string any_size)
is_2 = record { found = refl }

is_3 : Is rows 3 (u4 ∷ []) (an_octet_string any_size)
is_3 = record { found = refl }

abbrev head_or_0 : List ℕ → ℕ
head_or_0 [] = 0
head_or_0 (x ∷ xs) = x

-- 010101 is TRUE by the basic rules alone
true_is_255 : {w : AbstractValue} {n : ℕ} {c : Bool} {x : List ℕ} → ContentsEncode rows Distinguished a_boolean w n c x → x ≡ 1 ∷ [] → ⊥
true_is_255 (leaf of_false) e = let h = ap head_or_0 e in omega arith
true_is_255 (leaf (of_true l m f)) e = let h = ap head_or_0 e in omega arith

pub not_der_true : (w : AbstractValue) (n : ℕ) → EncodesTo rows Distinguished 0 w n (1 ∷ 1 ∷ 1 ∷ []) → ⊥
unfolding identifier
not_der_true w n a = true_is_255 (inside {x = 1 ∷ []} is_0 (short_header u1 false 1 (lit< tt)) refl a) refl

-- which ask this whatever the order
unsorted_true_is_255 : {w : AbstractValue} {n : ℕ} {c : Bool} {x : List ℕ} → ContentsEncode rows Unsorted a_boolean w n c x → x ≡ 1 ∷ [] → ⊥
unsorted_true_is_255 (leaf of_false) e = let h = ap head_or_0 e in omega arith
unsorted_true_is_255 (leaf (of_true l m f)) e = let h = ap head_or_0 e in omega arith

pub not_unsorted_true : (w : AbstractValue) (n : ℕ) → EncodesTo rows Unsorted 0 w n (1 ∷ 1 ∷ 1 ∷ []) → ⊥
unfolding identifier
not_unsorted_true w n a = unsorted_true_is_255 (inside {x = 1 ∷ []} is_0 (short_header u1 false 1 (lit< tt)) refl a) refl

-- 02020005 says nothing: the octets are not the fewest
needless : {w : AbstractValue} {n : ℕ} {c : Bool} {x : List ℕ} → ContentsEncode rows Basic (an_integer free) w n c x → x ≡ 0 ∷ 5 ∷ [] → ⊥
needless (leaf (of_integer a)) e = by a.is a.shortest e
  where
    by : {z : ℤ} {x : List ℕ} → TwosComplement z x → ((p : List ℕ) → TwosComplement z p → length x ≤ length p) → x ≡ 0 ∷ 5 ∷ [] → ⊥
    by {x = x} (not_negative {n = n} l b f h) s e =
        let m : n ≡ 5 = sym f ∙ ap (number_from_digits 256) e in
        let k : length x ≤ 1 = s (5 ∷ []) (not_negative (lit< tt) (lit< tt, tt) (sym m) (omega arith)) in
        let j = ap length e in omega arith
    by {x = x} (negative l b f h) s e =
        let m : number_from_digits 256 x ≡ 5 = ap (number_from_digits 256) e in
        let p : 256 ^ length x ≡ 65536 = ap (λ q. 256 ^ length q) e in omega arith

pub needless_octet : (w : AbstractValue) (n : ℕ) → EncodesTo rows Basic 1 w n (2 ∷ 2 ∷ 0 ∷ 5 ∷ []) → ⊥
unfolding identifier
needless_octet w n a = needless (inside {x = 0 ∷ 5 ∷ []} is_1 (short_header u2 false 2 (lit< tt)) refl a) refl

-- 02810105 isn't an encoding by the distinguished rules: the length has fewer octets
long_one : Header u2 false 1 (2 ∷ 129 ∷ 1 ∷ [])
unfolding identifier
long_one = record { size = 129 ∷ 1 ∷ []; is_size = long {ds = 1 ∷ []} (record { some = lit< tt; at_most = lit< tt; octets = (lit< tt, tt); worth = refl }); whole = refl }

too_long : {c : Bool} {x o : List ℕ} → Framed Distinguished (u2 ∷ []) c x o → o ≡ 2 ∷ 129 ∷ 1 ∷ 5 ∷ [] → ⊥
unfolding identifier shortest_header
too_long {c = c} {x = x} (innermost {h = h} a) e =
    let r = any_front u2 u2 c false (length x) 1 h (2 ∷ 129 ∷ 1 ∷ []) x (5 ∷ []) a.header long_one e in
    let s : h ≡ 2 ∷ 1 ∷ [] = shortest_only u2 c (length x) h a ∙ ap (λ q. shortest_header u2 q (length x)) r.forms ∙ ap (λ q. shortest_header u2 false q) r.counts in
    let l = ap length (sym r.headers ∙ s) in omega arith

pub not_der_length : (w : AbstractValue) (n : ℕ) → EncodesTo rows Distinguished 1 w n (2 ∷ 129 ∷ 1 ∷ 5 ∷ []) → ⊥
not_der_length w n (says i h fr) = too_long (framed_at (same_tags is_1 i) fr) refl

-- 2300 says nothing: a constructed bit string has a segment
no_segments : {w : AbstractValue} {n : ℕ} {c : Bool} {x : List ℕ} → ContentsEncode rows Basic (a_bit_string any_size) w n c x → c ≡ true → x ≡ [] → ⊥
no_segments (leaf (of_bits (whole_bits b) e f)) g h = cc
no_segments (leaf (of_bits (cut_bits b) e f)) g h = segments_some b h

pub no_segment_no_bits : (w : AbstractValue) (n : ℕ) → EncodesTo rows Basic 2 w n (35 ∷ 0 ∷ []) → ⊥
unfolding identifier
no_segment_no_bits w n a = no_segments (inside {x = []} is_2 (short_header u3 true 0 (lit< tt)) refl a) refl refl

-- 2308030204A0030200FF says nothing: the first segment holds four bits
four_bits : {s : List Bool} {c : Bool} {p : List ℕ} → BitPieces s c p → c ≡ false → p ≡ 4 ∷ 160 ∷ [] → length s ≡ 4
four_bits {s} (whole_bits w) e f =
    let g : w.unused ∷ w.octets ≡ 4 ∷ 160 ∷ [] = sym w.is ∙ f in
    let u = ap head_or_0 g in
    let l = ap length g in
    let b = ap length w.bits in
    let m = w.as_many in
    omega (arith, u, l, b, m, bits_length w.octets, length-append s w.filling)
four_bits (cut_bits g) e f = absurd (cc)

uneven : {s : List Bool} {o : List ℕ} → BitSegments s o → o ≡ (3 ∷ 2 ∷ 4 ∷ 160 ∷ []) ++ (3 ∷ 2 ∷ 0 ∷ 255 ∷ []) → ⊥
unfolding identifier
uneven (last_segment {c = c} {h = h} {p = p} hd ps) e =
    let r = any_front bit_string_tag bit_string_tag c false (length p) 2 h (3 ∷ 2 ∷ []) p (4 ∷ 160 ∷ 3 ∷ 2 ∷ 0 ∷ 255 ∷ []) hd (short_header bit_string_tag false 2 (lit< tt)) e in
    let l = ap length r.rest in
    let m = r.counts in omega arith
uneven (bit_segment {c = c} {h = h} {p = p} {o = o} {x = x} hd ps m gs) e =
    let f : h ++ (p ++ o) ≡ (3 ∷ 2 ∷ []) ++ (4 ∷ 160 ∷ 3 ∷ 2 ∷ 0 ∷ 255 ∷ []) = sym (append_assoc h p o) ∙ e in
    let r = any_front bit_string_tag bit_string_tag c false (length p) 2 h (3 ∷ 2 ∷ []) (p ++ o) (4 ∷ 160 ∷ 3 ∷ 2 ∷ 0 ∷ 255 ∷ []) hd (short_header bit_string_tag false 2 (lit< tt)) f in
    let q = (split_front p (4 ∷ 160 ∷ []) o (3 ∷ 2 ∷ 0 ∷ 255 ∷ []) r.counts r.rest).0 in
    let l = four_bits ps r.forms q in omega arith

pub uneven_segment : (w : AbstractValue) (n : ℕ) → EncodesTo rows Basic 2 w n (35 ∷ 8 ∷ 3 ∷ 2 ∷ 4 ∷ 160 ∷ 3 ∷ 2 ∷ 0 ∷ 255 ∷ []) → ⊥
unfolding identifier
uneven_segment w n a = by (inside {x = 3 ∷ 2 ∷ 4 ∷ 160 ∷ 3 ∷ 2 ∷ 0 ∷ 255 ∷ []} is_2 (short_header u3 true 8 (lit< tt)) refl a) refl refl
  where
    by : {w : AbstractValue} {n : ℕ} {c : Bool} {x : List ℕ} → ContentsEncode rows Basic (a_bit_string any_size) w n c x → c ≡ true → x ≡ 3 ∷ 2 ∷ 4 ∷ 160 ∷ 3 ∷ 2 ∷ 0 ∷ 255 ∷ [] → ⊥
    by (leaf (of_bits (whole_bits b) e f)) g h = cc
    by (leaf (of_bits (cut_bits b) e f)) g h = uneven b h
