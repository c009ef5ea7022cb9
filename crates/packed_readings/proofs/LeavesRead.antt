-- Values without other values in them are read as they are.
use Rattle.std.proofs.Common.{◌≡◌, ℕ, suc, Bool, true, false, List, [], ◌∷◌, ◌++◌, length, map, refl, sym, ap, subst, ◌∙◌, ◌<◌, zero, arith}
use Rattle.std.specs.Prelude.{not, ◌&&◌, if◌then◌else◌, pos, chars, IsUtf8}
use Rattle.std.specs.Str.{is_utf8, IsAscii}
use Rattle.std.specs.List.{AllByRecursion}
use Rattle.std.proofs.lemmas.Str.{IsUtf8-from_is_utf8, is_utf8-from_IsUtf8, IsUtf8-from_ascii}
use Rattle.std.proofs.lemmas.List.{length-map}
use Rattle.bits.specs.Words.{low_bits}
use Rattle.asn_base.specs.Abstract.{AbstractValue, boolean, bits, octets, text, null}
use Rattle.asn_base.specs.Names.{IsMember, is_first, is_later}
use Rattle.asn_base.specs.Types.{Constraint, NamedBit, Kind, a_boolean, an_integer, an_enumerated, a_bit_string, a_named_bit_string, an_octet_string, a_null, an_object_identifier, a_relative_oid, a_utf8_string, a_restricted_string, a_sequence, a_set, a_sequence_of, a_set_of, a_choice, Resolved}
use Rattle.asn_base.specs.Typed.{IsAllowedSize, IsPrimitive, fits_boolean, fits_bits, fits_named_bits, fits_octets, fits_null, fits_utf8}
use Rattle.asn_base.specs.Schemas.{AreBounds, IsSize, IsSound}
use Rattle.encodings.specs.Contents.{EndsInOne}
use Rattle.packed_encodings.specs.Lengths.{Bits, Counted, Sized, CountedOctets}
use Rattle.packed_encodings.specs.Leaves.{singly, LeafPer, of_boolean, of_bits, of_named_bits, of_octets, of_null, of_utf8}
use Rattle.packed_readings.specs.declared.refusal.PackedFault.{PackedFault}
use Rattle.packed_readings.specs.declared.refusal.PackedFault.TheVariants as packed_faults
use Rattle.decode_faults.specs.declared.refusal.Refusal.TheVariants as why
use Rattle.packed_readings.specs.Outcome.{found, stops, good, bad, bit_from, IsBit, IsReading, IsJudged, judging, each_from, onward, IsFault}
use Rattle.packed_readings.specs.Composing.{judged, same, stops_why, stops_where, not_both}
use Rattle.packed_readings.specs.Counts.{AreSized, AreCounted, IsOctet, any_total, several_bits, several_octets, counted_from, sized_from, octets_from, is_allowed}
use Rattle.packed_readings.specs.Leaves.{ends_in_zero, named_bits, utf8_text, leaf_from, IsLeafOf, character_from}
use Rattle.packed_readings.proofs.Fields.{bit, each, nothing, bits_read, octets_read, singles, single_bits}
use Rattle.packed_readings.proofs.Parts.{counted}
use Rattle.packed_readings.proofs.Octets.{octets_of_items, items_of_octets, octets as octets_are}
use Rattle.packed_encodings.specs.proving.Tests.{both_true, true_both}
use Rattle.packed_readings.proofs.Ranges.{allowed_true, allowed_is, apart}
use Rattle.packed_readings.proofs.Sizes.{good_is, not_good, sized_read}
use Rattle.packed_readings.proofs.Numbers.{integers}
use Rattle.packed_readings.proofs.Items.{enumerations, strings, a_character, are_members}
use Rattle.packed_readings.proofs.Septets.{object_identifiers, relative_identifiers}

single_length : (v : Bits) → length (singly v) ≡ length v
single_length [] = refl
single_length (b ∷ v) = ap suc (single_length v)

-- ---- BOOLEAN, NULL

record Truth (w : AbstractValue) (x : Bits) : Type 0 where
  truth : Bool
  is : w ≡ boolean truth
  bits_are : x ≡ truth ∷ []

taken_boolean : {w : AbstractValue} {x : Bits} → LeafPer a_boolean w x → Truth w x
taken_boolean (of_boolean {b = b}) = record { truth = b; is = refl; bits_are = refl }

booleans : IsReading (IsLeafOf a_boolean) (judging (λ x. good (boolean x)) bit_from)
booleans = same to from (judged (λ x. good (boolean x)) bit)
  where
    to : (w : AbstractValue) (x : Bits) → IsJudged IsBit (λ x. good (boolean x)) w x → IsLeafOf a_boolean w x
    to w x j = record {
      leaf = subst (λ q. LeafPer a_boolean q x) (good_is j.judged) (subst (LeafPer a_boolean (boolean j.read)) (sym j.is_read) of_boolean);
      fits = subst (IsPrimitive a_boolean) (good_is j.judged) fits_boolean;
    }

    from : (w : AbstractValue) (x : Bits) → IsLeafOf a_boolean w x → IsJudged IsBit (λ x. good (boolean x)) w x
    from w x l = let t = taken_boolean l.leaf in record { read = t.truth; is_read = t.bits_are; judged = ap good (sym t.is) }

taken_null : {w : AbstractValue} {x : Bits} → LeafPer a_null w x → (w ≡ null) × (x ≡ [])
taken_null of_null = (refl, refl)

nulls : IsReading (IsLeafOf a_null) (found null)
nulls = same to (λ w x l. taken_null l.leaf) (nothing null)
  where
    to : (w : AbstractValue) (x : Bits) → (w ≡ null) × (x ≡ []) → IsLeafOf a_null w x
    to w x p = record {
      leaf = subst (λ q. LeafPer a_null q x) (sym p.0) (subst (LeafPer a_null null) (sym p.1) of_null);
      fits = subst (IsPrimitive a_null) (sym p.0) fits_null;
    }

-- ---- BIT STRING

module _ (c : Constraint) (bounds : AreBounds IsSize c) where
  record SizedBits (w : AbstractValue) (x : Bits) : Type 0 where
    string : Bits
    is : w ≡ bits string
    sized : Sized c.visible (singly string) x
    allowed : IsAllowedSize c (length string)

  taken_bits : {w : AbstractValue} {x : Bits} → LeafPer (a_bit_string c) w x → IsPrimitive (a_bit_string c) w → SizedBits w x
  taken_bits (of_bits {v = v} s) (fits_bits a) = record { string = v; is = refl; sized = s; allowed = a }

  bit_strings : IsReading (IsLeafOf (a_bit_string c)) (judging (λ v. good (bits v)) (sized_from c several_bits))
  bit_strings = same to from (judged (λ v. good (bits v)) (sized_read c several_bits bits_read bounds))
    where
      to : (w : AbstractValue) (x : Bits) → IsJudged (AreSized IsBit c) (λ v. good (bits v)) w x → IsLeafOf (a_bit_string c) w x
      to w x j =
          let s = j.is_read in
          let e = singles s.are in
          record {
            leaf = subst (λ q. LeafPer (a_bit_string c) q x) (good_is j.judged) (of_bits (subst (λ q. Sized c.visible q x) e s.sized));
            fits = subst (IsPrimitive (a_bit_string c)) (good_is j.judged) (fits_bits (subst (IsAllowedSize c) (ap length e ∙ single_length j.read) s.allowed));
          }

      from : (w : AbstractValue) (x : Bits) → IsLeafOf (a_bit_string c) w x → IsJudged (AreSized IsBit c) (λ v. good (bits v)) w x
      from w x l =
          let t = taken_bits l.leaf l.fits in
          record {
            read = t.string;
            is_read = record { items = singly t.string; are = single_bits t.string; allowed = subst (IsAllowedSize c) (sym (single_length t.string)) t.allowed; sized = t.sized };
            judged = ap good (sym t.is);
          }

-- ---- under names

ends : (v : Bits) → ends_in_zero v ≡ false → EndsInOne v
ends [] e t f = none t f
  where
    none : (t : Bits) → [] ≡ t ++ (false ∷ []) → ⊥
    none [] f = cc
    none (b ∷ t) f = cc
ends (b ∷ []) e [] f = by b e (ap head_of f)
  where
    head_of : Bits → Bool
    head_of [] = true
    head_of (b ∷ bs) = b

    by : (b : Bool) → not b ≡ false → b ≡ false → ⊥
    by true e f = apart f
    by false e f = apart e
ends (b ∷ []) e (d ∷ t) f = none t (ap tail_of f)
  where
    tail_of : Bits → Bits
    tail_of [] = []
    tail_of (b ∷ bs) = bs

    none : (t : Bits) → [] ≡ t ++ (false ∷ []) → ⊥
    none [] f = cc
    none (b ∷ t) f = cc
ends (b ∷ d ∷ v) e [] f = none (ap tail_of f)
  where
    tail_of : Bits → Bits
    tail_of [] = []
    tail_of (b ∷ bs) = bs

    none : d ∷ v ≡ [] → ⊥
    none f = cc
ends (b ∷ d ∷ v) e (a ∷ t) f = ends (d ∷ v) e t (ap tail_of f)
  where
    tail_of : Bits → Bits
    tail_of [] = []
    tail_of (b ∷ bs) = bs

zero_end : (v : Bits) → ends_in_zero v ≡ true → (t : Bits) × (v ≡ t ++ (false ∷ []))
zero_end [] e = absurd (apart (sym e))
zero_end (true ∷ []) e = absurd (apart (sym e))
zero_end (false ∷ []) e = ([], refl)
zero_end (b ∷ d ∷ v) e = let r = zero_end (d ∷ v) e in (b ∷ r.0, ap (λ q. b ∷ q) r.1)

module _ (ns : List NamedBit) where
  record NamedBits (w : AbstractValue) (x : Bits) : Type 0 where
    string : Bits
    is : w ≡ bits string
    trimmed : EndsInOne string
    counted_are : Counted (singly string) x

  taken_named : {w : AbstractValue} {x : Bits} → LeafPer (a_named_bit_string ns) w x → NamedBits w x
  taken_named (of_named_bits {v = v} e c) = record { string = v; is = refl; trimmed = e; counted_are = c }

  named_is : (v : Bits) (w : AbstractValue) → named_bits v ≡ good w → (w ≡ bits v) × EndsInOne v
  named_is v w e = by (ends_in_zero v) refl e
    where
      by : (t : Bool) → ends_in_zero v ≡ t → (if t then bad why.NotCanonical else good (bits v)) ≡ good w → (w ≡ bits v) × EndsInOne v
      by true f e = absurd (not_good e)
      by false f e = (sym (good_is e), ends v f)

  is_named : (v : Bits) → EndsInOne v → named_bits v ≡ good (bits v)
  is_named v h = by (ends_in_zero v) refl
    where
      by : (t : Bool) → ends_in_zero v ≡ t → (if t then bad why.NotCanonical else good (bits v)) ≡ good (bits v)
      by true f = absurd (let r = zero_end v f in h r.0 r.1)
      by false f = refl

  named_strings : IsReading (IsLeafOf (a_named_bit_string ns)) (judging named_bits (counted_from any_total several_bits))
  named_strings = same to from (judged named_bits (counted any_total several_bits bits_read))
    where
      to : (w : AbstractValue) (x : Bits) → IsJudged (AreCounted IsBit any_total) named_bits w x → IsLeafOf (a_named_bit_string ns) w x
      to w x j =
          let n = named_is j.read w j.judged in
          record {
            leaf = subst (λ q. LeafPer (a_named_bit_string ns) q x) (sym n.0) (of_named_bits n.1 (subst (λ q. Counted q x) (singles j.is_read.are) j.is_read.counted));
            fits = subst (IsPrimitive (a_named_bit_string ns)) (sym n.0) fits_named_bits;
          }

      from : (w : AbstractValue) (x : Bits) → IsLeafOf (a_named_bit_string ns) w x → IsJudged (AreCounted IsBit any_total) named_bits w x
      from w x l =
          let t = taken_named l.leaf in
          record {
            read = t.string;
            is_read = record { items = singly t.string; are = single_bits t.string; passed = refl; counted = t.counted_are };
            judged = is_named t.string t.trimmed ∙ ap good (sym t.is);
          }

-- ---- OCTET STRING

module _ (c : Constraint) (bounds : AreBounds IsSize c) where
  record SizedOctets (w : AbstractValue) (x : Bits) : Type 0 where
    string : List ℕ
    is : w ≡ octets string
    sized : AreSized IsOctet c string x

  taken_octets : {w : AbstractValue} {x : Bits} → LeafPer (an_octet_string c) w x → IsPrimitive (an_octet_string c) w → SizedOctets w x
  taken_octets (of_octets {o = o} b s) (fits_octets b' a) = record {
    string = o;
    is = refl;
    sized = record { items = map (low_bits 8) o; are = items_of_octets o b; allowed = subst (IsAllowedSize c) (sym (length-map o (low_bits 8))) a; sized = s };
  }

  octet_strings : IsReading (IsLeafOf (an_octet_string c)) (judging (λ o. good (octets o)) (sized_from c several_octets))
  octet_strings = same to from (judged (λ o. good (octets o)) (sized_read c several_octets octets_read bounds))
    where
      to : (w : AbstractValue) (x : Bits) → IsJudged (AreSized IsOctet c) (λ o. good (octets o)) w x → IsLeafOf (an_octet_string c) w x
      to w x j =
          let s = j.is_read in
          let a = octets_of_items s.are in
          record {
            leaf = subst (λ q. LeafPer (an_octet_string c) q x) (good_is j.judged) (of_octets a.below (subst (λ q. Sized c.visible q x) a.words s.sized));
            fits = subst (IsPrimitive (an_octet_string c)) (good_is j.judged) (fits_octets a.below (subst (IsAllowedSize c) (ap length a.words ∙ length-map j.read (low_bits 8)) s.allowed));
          }

      from : (w : AbstractValue) (x : Bits) → IsLeafOf (an_octet_string c) w x → IsJudged (AreSized IsOctet c) (λ o. good (octets o)) w x
      from w x l = let t = taken_octets l.leaf l.fits in record { read = t.string; is_read = t.sized; judged = ap good (sym t.is) }

-- ---- UTF8String

module _ (c : Constraint) where
  record Utf8 (w : AbstractValue) (x : Bits) : Type 0 where
    string : List ℕ
    is : w ≡ text string
    counted_are : CountedOctets string x
    utf8 : IsUtf8 string
    allowed : IsAllowedSize c (length (chars string))

  taken_utf8 : {w : AbstractValue} {x : Bits} → LeafPer (a_utf8_string c) w x → IsPrimitive (a_utf8_string c) w → Utf8 w x
  taken_utf8 (of_utf8 {o = o} d) (fits_utf8 u a) = record { string = o; is = refl; counted_are = d; utf8 = u; allowed = a }

  utf8_at : (w : AbstractValue) (x : Bits) (o : List ℕ) → CountedOctets o x → utf8_text c o ≡ good w → Utf8 w x
  utf8_at w x o d e = by (is_utf8 o && is_allowed c (pos (length (chars o)))) refl e
    where
      by : (t : Bool) → (is_utf8 o && is_allowed c (pos (length (chars o)))) ≡ t → (if t then good (text o) else bad why.Outside) ≡ good w → Utf8 w x
      by true f e =
          let p = true_both (is_utf8 o) (is_allowed c (pos (length (chars o)))) f in
          record { string = o; is = sym (good_is e); counted_are = d; utf8 = IsUtf8-from_is_utf8 o p.0; allowed = allowed_is c (pos (length (chars o))) p.1 }
      by false f e = absurd (not_good e)

  utf8_of : (o : List ℕ) → IsUtf8 o → IsAllowedSize c (length (chars o)) → utf8_text c o ≡ good (text o)
  utf8_of o u a = ap (λ t. if t then good (text o) else bad why.Outside) (both_true (is_utf8 o) (is_allowed c (pos (length (chars o)))) (is_utf8-from_IsUtf8 o u) (allowed_true c (pos (length (chars o))) a))

  utf8_strings : IsReading (IsLeafOf (a_utf8_string c)) (judging (utf8_text c) octets_from)
  utf8_strings = same to from (judged (utf8_text c) octets_are)
    where
      to : (w : AbstractValue) (x : Bits) → IsJudged CountedOctets (utf8_text c) w x → IsLeafOf (a_utf8_string c) w x
      to w x j =
          let t = utf8_at w x j.read j.is_read j.judged in
          record {
            leaf = subst (λ q. LeafPer (a_utf8_string c) q x) (sym t.is) (of_utf8 t.counted_are);
            fits = subst (IsPrimitive (a_utf8_string c)) (sym t.is) (fits_utf8 t.utf8 t.allowed);
          }

      from : (w : AbstractValue) (x : Bits) → IsLeafOf (a_utf8_string c) w x → IsJudged CountedOctets (utf8_text c) w x
      from w x l = let t = taken_utf8 l.leaf l.fits in record { read = t.string; is_read = t.counted_are; judged = utf8_of t.string t.utf8 t.allowed ∙ ap good (sym t.is) }

-- ---- all kinds

none : (k : Kind) → ((w : AbstractValue) (x : Bits) → LeafPer k w x → ⊥) → IsReading (IsLeafOf k) (stops why.Outside)
none k h = record {
  sound = λ b r v e. absurd (not_both e);
  whole = λ v x r l. absurd (h v x l.leaf);
  firm = λ b r m e d n. ap (λ q. stops q (b ++ m)) (stops_why refl d) ∙ ap (λ q. stops e (q ++ m)) (stops_where refl d);
  inside = λ b r e d. ([], stops_where refl d);
}

pub leaves : (s : List Resolved) (k : Kind) → IsSound s k → IsReading (IsLeafOf k) (leaf_from k)
leaves s a_boolean h = booleans
leaves s (an_integer c) h = integers c h
leaves s (an_enumerated root e more) h = enumerations e root more h
leaves s (a_bit_string c) h = bit_strings c h
leaves s (a_named_bit_string ns) h = named_strings ns
leaves s (an_octet_string c) h = octet_strings c h
leaves s a_null h = nulls
leaves s an_object_identifier h = object_identifiers
leaves s a_relative_oid h = relative_identifiers
leaves s (a_utf8_string c) h = utf8_strings c
leaves s (a_restricted_string k a c) h = strings a k c h.1
leaves s (a_sequence e cs) h = none (a_sequence e cs) (λ w x l. elim l [ ])
leaves s (a_set e cs) h = none (a_set e cs) (λ w x l. elim l [ ])
leaves s (a_sequence_of c u) h = none (a_sequence_of c u) (λ w x l. elim l [ ])
leaves s (a_set_of c u) h = none (a_set_of c u) (λ w x l. elim l [ ])
leaves s (a_choice root e more) h = none (a_choice root e more) (λ w x l. elim l [ ])

-- ---- texts, as calls read them

pub utf8_good : (c : Constraint) (o : List ℕ) → IsUtf8 o → is_allowed c (pos (length (chars o))) ≡ true → utf8_text c o ≡ good (text o)
utf8_good c o u a = ap (λ t. if t then good (text o) else bad why.Outside) (both_true (is_utf8 o) (is_allowed c (pos (length (chars o)))) (is_utf8-from_IsUtf8 o u) a)

pub utf8_long : (c : Constraint) (o : List ℕ) → is_allowed c (pos (length (chars o))) ≡ false → utf8_text c o ≡ bad why.Outside
utf8_long c o a = ap (λ t. if t then good (text o) else bad why.Outside) (by (is_utf8 o) (is_allowed c (pos (length (chars o)))) a)
  where
    by : (p q : Bool) → q ≡ false → (p && q) ≡ false
    by true q e = e
    by false q e = refl

pub utf8_none : (c : Constraint) (o : List ℕ) → (IsUtf8 o → ⊥) → utf8_text c o ≡ bad why.Outside
utf8_none c o n = ap (λ t. if t then good (text o) else bad why.Outside) (by (is_utf8 o) refl)
  where
    by : (p : Bool) → is_utf8 o ≡ p → (is_utf8 o && is_allowed c (pos (length (chars o)))) ≡ false
    by true e = absurd (n (IsUtf8-from_is_utf8 o e))
    by false e = ap (λ q. q && is_allowed c (pos (length (chars o)))) e

pub utf8_read : (c : Constraint) (o s t : List ℕ) (b : Bool) → s ≡ o → IsUtf8 o → t ≡ s → b ≡ is_allowed c (pos (length (chars t))) → b ≡ true → utf8_text c o ≡ good (text s)
utf8_read c o s t b e u f g h = utf8_good c o u (ap (λ q. is_allowed c (pos (length (chars q)))) (sym (f ∙ e)) ∙ sym g ∙ h) ∙ ap (λ q. good (text q)) (sym e)

pub utf8_refused : (c : Constraint) (o s t : List ℕ) (b : Bool) → s ≡ o → t ≡ s → b ≡ is_allowed c (pos (length (chars t))) → b ≡ false → utf8_text c o ≡ bad why.Outside
utf8_refused c o s t b e f g h = utf8_long c o (ap (λ q. is_allowed c (pos (length (chars q)))) (sym (f ∙ e)) ∙ sym g ∙ h)

ascii_codes : (o : List ℕ) → AllByRecursion (λ c. c < 128) o → IsAscii o
ascii_codes [] a i = omega arith
ascii_codes (x ∷ o) a zero = a.0
ascii_codes (x ∷ o) a (suc i) = ascii_codes o a.1 i

pub ascii_text : (o : List ℕ) → AllByRecursion (λ c. c < 128) o → IsUtf8 o
ascii_text o a = IsUtf8-from_ascii o (ascii_codes o a)

member_below : (a : List ℕ) (c : ℕ) → IsMember c a → AllByRecursion (λ c. c < 128) a → c < 128
member_below [] c m b = elim m [ ]
member_below (d ∷ a) c is_first b = b.0
member_below (d ∷ a) c (is_later m) b = member_below a c m b.1

members_below : (a o : List ℕ) → AllByRecursion (λ x. IsMember x a) o → AllByRecursion (λ c. c < 128) a → AllByRecursion (λ c. c < 128) o
members_below a [] m b = tt
members_below a (c ∷ o) m b = (member_below a c m.0 b, members_below a o m.1 b)

pub string_codes : (a : List ℕ) (c : Constraint) (b r : Bits) (o : List ℕ) → AreBounds IsSize c → AllByRecursion (λ c. c < 128) a → sized_from c (each_from (character_from a)) b ≡ found o r → AllByRecursion (λ c. c < 128) o
string_codes a c b r o bounds below e =
    let s = (sized_read c (each_from (character_from a)) (each (a_character a)) bounds).sound b r o e in
    members_below a o (are_members a s.1.are) below

pub text_answer : (a d : List ℕ) (c : Constraint) (b r : Bits) (o : List ℕ) (w : AbstractValue) → a ≡ d → sized_from c (each_from (character_from a)) b ≡ found o r → w ≡ text o → onward (sized_from c (each_from (character_from d)) b) (λ o r. found (text o) r) ≡ found w r
text_answer a d c b r o w e f g = ap (λ q. onward (sized_from c (each_from (character_from q)) b) (λ o r. found (text o) r)) (sym e) ∙ ap (λ q. onward q (λ o r. found (text o) r)) f ∙ ap (λ q. found q r) (sym g)

pub text_fault : (a d : List ℕ) (c : Constraint) (b r : Bits) (e : PackedFault) → a ≡ d → IsFault (sized_from c (each_from (character_from a)) b) e r → IsFault (onward (sized_from c (each_from (character_from d)) b) (λ o r. found (text o) r)) e r
text_fault a d c b r packed_faults.Memory e f = tt
text_fault a d c b r (packed_faults.Refused k) e f = ap (λ q. onward (sized_from c (each_from (character_from q)) b) (λ o r. found (text o) r)) (sym e) ∙ ap (λ q. onward q (λ o r. found (text o) r)) f
